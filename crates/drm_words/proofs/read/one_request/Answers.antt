use Rattle.drm_words.proofs.LineLemmas.{line_once}
use Rattle.drm_words.proofs.read.one_request.Goals as goal

pub returns : goal.returns
returns c = λ words r other h k. line_once words r other h k

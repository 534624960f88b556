use Rattle.cli_paths.proofs.LineLemmas.{line_once}
use Rattle.cli_paths.proofs.read.one_request.Goals as goal

pub returns : goal.returns
returns c = λ words request other h k. line_once words request other h k

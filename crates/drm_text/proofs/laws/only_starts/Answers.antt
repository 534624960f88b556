use Rattle.drm_text.proofs.Starts.{only_starts}
use Rattle.drm_text.proofs.laws.only_starts.Goals as goal

pub returns : goal.returns
returns c = only_starts

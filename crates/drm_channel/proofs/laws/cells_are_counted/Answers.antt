use Rattle.drm_channel.proofs.Counted.{counts}
use Rattle.drm_channel.proofs.laws.cells_are_counted.Goals as goal

pub returns : goal.returns
returns c = counts

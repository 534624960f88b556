use Rattle.drm_schedule.proofs.InForceLemmas.{one_is_in_force}
use Rattle.drm_schedule.proofs.laws.one_is_in_force.Goals as goal

pub returns : goal.returns
returns c = one_is_in_force

use Rattle.drm_schedule.proofs.Fitting.{all_fit, total_is_small}
use Rattle.drm_schedule.proofs.laws.entities_can_be_written.Goals as goal

pub returns : goal.returns
returns c = record { fit = all_fit _ c.requires; in_range = total_is_small _ c.requires }

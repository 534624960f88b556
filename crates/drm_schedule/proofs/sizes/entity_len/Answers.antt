use Rattle.drm_schedule.proofs.Fitting.{entity_fits}
use Rattle.drm_schedule.proofs.sizes.entity_len.Goals as goal

pub size-requires : goal.size-requires
size-requires c = entity_fits _ c.requires

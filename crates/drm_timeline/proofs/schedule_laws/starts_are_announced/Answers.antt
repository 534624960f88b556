use Rattle.drm_timeline.proofs.ScheduleLaws.{announces_starts}
use Rattle.drm_timeline.proofs.schedule_laws.starts_are_announced.Goals as goal

pub returns : goal.returns
returns c = announces_starts c.args.plan.now c.always_valid.ensures.schedule c.always_valid.ensures.faultless

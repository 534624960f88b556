-- A frame of a schedule, as contracts see it where its parity isn't made.
use Rattle.std.specs.Prelude.{ℕ}
use Rattle.drm_schedule.specs.declared.plan.Plan.{Plan}

-- frame `frame` of `plan`
pub record PlacedFrame : Type 0 where
  pub plan : Plan
  pub frame : ℕ

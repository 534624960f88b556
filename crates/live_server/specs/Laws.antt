-- A schedule of which no stream is live.
use Rattle.std.specs.Prelude.{ℕ, ◌≡◌, false, List}
use Rattle.drm_schedule.specs.declared.live.Live.{Live}
use Rattle.drm_schedule.specs.declared.plan.Plan.{Plan}
use Rattle.drm_schedule.specs.Live.{is_live}
use Rattle.live_server.specs.Feeding.{fed}

-- whatever input has, it is the schedule itself
abbrev pub NoneIsTheSchedule : Type 0
NoneIsTheSchedule = (live : Live) → ((k : ℕ) → is_live live k ≡ false) → (plan : Plan) (first : ℕ) (bytes : List ℕ) → fed live plan first bytes ≡ plan

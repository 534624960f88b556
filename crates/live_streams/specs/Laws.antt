-- The laws of a schedule with live streams.
use Rattle.std.specs.Prelude.{ℕ, List}
use Rattle.drm_schedule.specs.declared.live.Live.{Live}
use Rattle.drm_schedule.specs.declared.plan.Plan.{Plan}
use Rattle.drm_schedule.specs.Valid.{IsSchedule}
use Rattle.live_streams.specs.Live.{LivePieces, AreWhole, live_schedule}
use Rattle.live_streams.specs.Input.{pieces_of}

-- Whatever pieces came, the schedule with them is valid.
abbrev pub LiveIsASchedule : Type 0
LiveIsASchedule = (live : Live) (given : LivePieces) (plan : Plan) → IsSchedule plan → AreWhole live given plan → IsSchedule (live_schedule live given plan)

-- and so it is with what input gave, from whatever frame on
abbrev pub InputMakesASchedule : Type 0
InputMakesASchedule =
    (live : Live) (plan : Plan) (first : ℕ) (bytes : List ℕ) → IsSchedule plan → IsSchedule (live_schedule live (pieces_of live plan first bytes) plan)

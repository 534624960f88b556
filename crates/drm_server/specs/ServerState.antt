-- A server, as contracts see it.
use Rattle.std.specs.Prelude.{ℕ, ◌≡◌, ◌==◌, if◌then◌else◌, List, Some, None}
use Rattle.drm_schedule.specs.declared.plan.Plan.{Plan}
use Rattle.live_streams.specs.Live.{LivePieces}
use Rattle.drm_server.specs.Frames.{IsPacketAt}

-- The schedule, and the frame that is loaded: frame `frame` of `plan`. That is the schedule itself, or, where the frame was loaded
-- with bytes for its live streams, the schedule whose live streams have them.
pub record ServerState : Type 0 where
  pub base : Plan
  pub plan : Plan
  pub frame : ℕ

-- A piece came for frame t, and for no other one.
abbrev pub only_at : ℕ → List ℕ → LivePieces
only_at t piece n = if n == t then Some piece else None

-- The frame that a server has loaded is this schedule's frame of the same number, and is carried in the same way.
pub record HasFrame (server : ServerState) (plan : Plan) : Type 0 where
  pub carry : plan.carry ≡ server.plan.carry
  pub seq : plan.seq ≡ server.plan.seq
  pub packet : (packet : List ℕ) → IsPacketAt server.plan server.frame packet → IsPacketAt plan server.frame packet

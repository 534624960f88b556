-- The laws of a schedule that another one follows.
use Rattle.std.specs.Prelude.{ℕ, ◌≡◌, ◌+◌, ◌/◌, ◌<◌, ◌≤◌, List, ◌++◌, is_some, Some}
use Rattle.drm_fac.specs.declared.fac.Fac.{Fac}
use Rattle.drm_sdc.specs.declared.block.Block.{Block}
use Rattle.drm_sdc.specs.declared.entity.Entity.{Entity}
use Rattle.mdi_items.specs.RoundTrip.{Parts}
use Rattle.drm_schedule.specs.declared.plan.Plan.{Plan}
use Rattle.drm_schedule.specs.Valid.{IsSchedule}
use Rattle.drm_timeline.specs.Numbers.{frame_count}
use Rattle.drm_timeline.specs.Standing.{index_of}
use Rattle.drm_timeline.specs.Blocks.{block_of}
use Rattle.drm_server.specs.Frames.{IsFrameAt}
use Rattle.drm_server.specs.Datagrams.{AreOfFrame}
use Rattle.law_seam.specs.Joined.{joined, GoesOn}

-- The datagrams of each frame of a schedule that goes on are those of the frame that stands there in both as one.
abbrev pub FollowsBehind : Type 0
FollowsBehind =
    (countdown : ℕ) (plan next : Plan) → GoesOn plan next → IsSchedule plan → IsSchedule next
    → (t : ℕ) (datagrams : List (List ℕ)) → AreOfFrame next t datagrams → AreOfFrame (joined countdown plan next) (frame_count plan + t) datagrams

-- a FAC with another reconfiguration index
abbrev pub with_index : ℕ → Fac → Fac
with_index index fac = record fac { channel = record fac.channel { index = index } }

-- What a frame is made of in front of a reconfiguration, beside what it is made of without one: the FAC's index, and in the block what announces it
-- behind all else.
pub record DiffersByAnnouncement (plan both : Plan) (t : ℕ) (parts others : Parts) : Type 0 where
  pub count : others.count ≡ parts.count
  pub fac : others.fac ≡ with_index (index_of both (t / 3)) parts.fac
  pub mux : others.mux ≡ parts.mux
  pub mode : others.mode ≡ parts.mode
  pub streams : others.streams ≡ parts.streams
  pub has_block : is_some others.block ≡ is_some parts.block
  pub block : (block other : Block) → block_of plan (t / 3) ≡ Some block → block_of both (t / 3) ≡ Some other → (more : List Entity) × (other.entities ≡ block.entities ++ more)

-- The frames below the seam are those of the first schedule, but in the super frames of the countdown, which announce the next one.
abbrev pub AnnouncesBelow : Type 0
AnnouncesBelow =
    (countdown : ℕ) (plan next : Plan) → IsSchedule plan → IsSchedule next → IsSchedule (joined countdown plan next)
    → (t : ℕ) (parts others : Parts) → t < frame_count plan → IsFrameAt plan t parts → IsFrameAt (joined countdown plan next) t others
    → (t / 3 + countdown < plan.length → others ≡ parts) × (plan.length ≤ t / 3 + countdown → DiffersByAnnouncement plan (joined countdown plan next) t parts others)

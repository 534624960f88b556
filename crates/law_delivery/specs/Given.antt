-- What a modulator gives of a delivery of a schedule. No receiver is spoken of here.
use Rattle.std.specs.Prelude.{ℕ, ℤ, pos, ◌+ℤ◌, ◌≡◌, ◌==◌, Bool, true, false, if◌then◌else◌, List, length, slice_get, Option, Some, None}
use Rattle.drm_schedule.specs.declared.plan.Plan.{Plan}
use Rattle.drm_reconfiguration.specs.declared.tracker.Before.{Before}
use Rattle.drm_reconfiguration.specs.Switches.{StandsBefore}
use Rattle.drm_timeline.specs.Starts.{IsFirstFrame}
use Rattle.dcp_pft.specs.Loss.{size, is_recoverable}
use Rattle.mdi_items.specs.RoundTrip.{Parts, IsWrittenOf, IsFrameOf}
use Rattle.dcp_collect.specs.Numbers.{end_of}
use Rattle.law_collect.specs.Delivery.{got, newest_of}
use Rattle.mod_feed.specs.Items.{FrameItem, Frame, Missing, Bad}
use Rattle.mod_feed.specs.Feeding.{FeedStep, befores_of, all_seen}
use Rattle.drm_server.specs.Frames.{IsFrameAt}
use Rattle.law_delivery.specs.Sent.{shape_at, frame_of_number}

-- The item of number q is frame t of the schedule: its FAC, its SDC block and its streams are the server's.
pub record IsServed (plan : Plan) (t q : ℕ) (item : FrameItem) : Type 0 where
  pub parts : Parts
  pub is_frame : IsFrameAt plan t parts
  pub payload : List ℕ
  pub written : IsWrittenOf parts payload
  pub read : IsFrameOf parts payload
  pub item_is : item ≡ Frame q read.frame payload

-- the frame, where its packet can be made again of the datagrams that were got; else it is missing, with how many of them
-- were got, and of how many
abbrev pub IsServedWhere : Bool → Plan → ℕ → ℕ → (ℕ → Bool) → FrameItem → Type 0
IsServedWhere true plan t q kept item = IsServed plan t q item
IsServedWhere false plan t q kept item =
    let count = (shape_at plan t).count in
    let had = size count kept in
    item ≡ Missing q had (if had == 0 then 0 else count)

abbrev pub IsItemBy : Plan → Option ℕ → ℕ → (ℕ → Bool) → FrameItem → Type 0
IsItemBy plan None q kept item = item ≡ Missing q 0 0
IsItemBy plan (Some t) q kept item = IsServedWhere (is_recoverable (shape_at plan t) kept) plan t q kept item

-- the item of number q
abbrev pub IsItemAt : Plan → ℕ → ℤ → List (ℕ × ℕ) → ℕ → FrameItem → Type 0
IsItemAt plan window first_frame pairs q item = IsItemBy plan (frame_of_number plan first_frame q) q (got window first_frame pairs q) item

-- An item for each number up to the told one, or up to the newest, in order; and before each of them the switch or the
-- resumption that stands there in the list of all.
pub record AreGiven (plan : Plan) (window : ℕ) (first_frame : ℤ) (frame_limit : Option ℕ) (pairs : List (ℕ × ℕ)) (steps : List FeedStep) : Type 0 where
  pub many : length steps ≡ end_of frame_limit (newest_of first_frame None pairs)
  pub items : (q : ℕ) (step : FeedStep) → slice_get steps q ≡ Some step → IsItemAt plan window first_frame pairs q step.item
  pub before : (q : ℕ) (before : Option Before) → slice_get (befores_of steps) q ≡ Some before → StandsBefore (all_seen steps) q before

-- frame number q is the first one of a later configuration
abbrev pub IsStart : Plan → ℤ → ℕ → Type 0
IsStart plan first_frame q = (t : ℕ) × ((first_frame +ℤ pos q) ≡ pos t) × IsFirstFrame plan t

-- each of these is the schedule's frame of its number
abbrev pub AreAllServed : Plan → ℤ → List FeedStep → Type 0
AreAllServed plan first_frame steps =
    (q : ℕ) (step : FeedStep) → slice_get steps q ≡ Some step → (t : ℕ) × ((first_frame +ℤ pos q) ≡ pos t) × IsServed plan t q step.item

abbrev pub IsAFrame : FrameItem → Type 0
IsAFrame (Frame q frame payload) = Unit {0}
IsAFrame (Missing q had total) = ⊥
IsAFrame (Bad q fault) = ⊥

-- none of these is missing
abbrev pub AreAllFrames : List FeedStep → Type 0
AreAllFrames steps = (q : ℕ) (step : FeedStep) → slice_get steps q ≡ Some step → IsAFrame step.item

-- An item that is a frame is the schedule's.
use Rattle.std.proofs.Common.{ℕ, ◌≡◌, Bool, true, false, List, Option, Some, None, refl, subst}
use Rattle.std.specs.Prelude.{ℤ, pos, ◌+ℤ◌}
use Rattle.dcp_pft.specs.Loss.{is_recoverable}
use Rattle.drm_schedule.specs.declared.plan.Plan.{Plan}
use Rattle.law_collect.specs.Delivery.{got}
use Rattle.mod_feed.specs.Items.{FrameItem}
use Rattle.mod_feed.specs.Feeding.{FeedStep}
use Rattle.law_delivery.specs.Sent.{shape_at, frame_of_number}
use Rattle.law_delivery.specs.Given.{IsServed, IsServedWhere, IsItemBy, AreGiven, AreAllServed, IsAFrame, AreAllFrames}
use Rattle.law_delivery.proofs.Numbering.{frame_is}

served_where : (b : Bool) (plan : Plan) (t q : ℕ) (kept : ℕ → Bool) (item : FrameItem) → IsServedWhere b plan t q kept item → IsAFrame item → IsServed plan t q item
served_where true plan t q kept item is frame = is
served_where false plan t q kept item is frame = absurd (subst IsAFrame is frame)

served_by : (plan : Plan) (first_frame : ℤ) (q : ℕ) (kept : ℕ → Bool) (item : FrameItem) (o : Option ℕ) → frame_of_number plan first_frame q ≡ o → IsItemBy plan o q kept item → IsAFrame item
    → (t : ℕ) × ((first_frame +ℤ pos q) ≡ pos t) × IsServed plan t q item
served_by plan first_frame q kept item None at is frame = absurd (subst IsAFrame is frame)
served_by plan first_frame q kept item (Some t) at is frame =
    (t, (frame_is plan (first_frame +ℤ pos q) t at).0, served_where (is_recoverable (shape_at plan t) kept) plan t q kept item is frame)

pub all_served : (plan : Plan) (window : ℕ) (first_frame : ℤ) (frame_limit : Option ℕ) (pairs : List (ℕ × ℕ)) (steps : List FeedStep)
    → AreGiven plan window first_frame frame_limit pairs steps → AreAllFrames steps → AreAllServed plan first_frame steps
all_served plan window first_frame frame_limit pairs steps given frames = λ q step at.
    served_by plan first_frame q (got window first_frame pairs q) step.item (frame_of_number plan first_frame q) refl (given.items q step at) (frames q step at)

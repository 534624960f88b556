-- In what two modulators of one schedule agree.
use Rattle.std.specs.Prelude.{ℕ, ◌≡◌, ◌*◌, ◌<◌, List, length, slice_get, Option, None, Some}
use Rattle.drm_fac.specs.Fac.{IsFac}
use Rattle.drm_schedule.specs.declared.plan.Plan.{Plan}
use Rattle.drm_reconfiguration.specs.declared.tracker.Before.{Before}
use Rattle.drm_reconfiguration.specs.declared.tracker.Before.TheVariants.{Switch}
use Rattle.mdi_items.specs.RoundTrip.{Parts}
use Rattle.mod_feed.specs.Feeding.{FeedStep}
use Rattle.drm_server.specs.Frames.{IsFrameAt}
use Rattle.drm_server.specs.Multiplex.{multiplex_at}
use Rattle.law_delivery.specs.Given.{IsAFrame, AreAllFrames}
use Rattle.law_frame_lines.specs.Line.{line_of}
use Rattle.report_text.specs.Report.{item_line, step_text}
use Rattle.report_text.specs.Reports.{steps_text}
use Rattle.law_agreement.specs.Reconfigurations.{GivenItems, IsItemOf, HasItemOf, GivesCountdown, CanReport, SwitchesBefore, ReportsReconfigurations}

-- Both lines are those of frame t of the schedule: its count, its mode, its FAC, the bits of its SDC block, its multiplex description and
-- its multiplex frame are the same. The numbers q and q', by which the two modulators count it, are all that may differ.
pub record AreLinesOfFrame (plan : Plan) (t q q' : ℕ) (line line' : List ℕ) : Type 0 where
  pub parts : Parts
  pub frame : IsFrameAt plan t parts
  pub fac : List ℕ
  pub is_fac : IsFac parts.fac fac
  pub multiplex : List ℕ
  pub is_multiplex : multiplex_at plan t ≡ Some multiplex
  pub line_is : line ≡ line_of q parts fac multiplex
  pub line_is' : line' ≡ line_of q' parts fac multiplex

-- SAME BITS: of each frame that both give, whatever else is missing, the lines differ in the numbers alone.
abbrev pub SameFrames : Plan → GivenItems → GivenItems → Type 0
SameFrames plan one other =
    (t q q' : ℕ) (step step' : FeedStep) → IsItemOf one t q step → IsItemOf other t q' step' → IsAFrame step.item → IsAFrame step'.item
    → AreLinesOfFrame plan t q q' (item_line step.item) (item_line step'.item)

-- SAME FRAME: what both report of reconfigurations, whatever is missing.
pub record SameReconfigurations (plan : Plan) (one other : GivenItems) : Type 0 where
  pub first : ReportsReconfigurations plan one
  pub second : ReportsReconfigurations plan other
  -- A reconfiguration that both can report is reported by both before the same frame: the first one of its super frame.
  pub both : (start : ℕ) → CanReport plan start one → CanReport plan start other → SwitchesBefore (3 * start) one × SwitchesBefore (3 * start) other
  -- If one reports it and the other, which has an item of that frame, doesn't, the other gives no frame of its countdown.
  pub unless_missed : (start : ℕ) → SwitchesBefore (3 * start) one → HasItemOf (3 * start) other → ¬ SwitchesBefore (3 * start) other → ¬ GivesCountdown plan start other

-- nothing stands before either item, or a `switch` before both, each with its own item's number
abbrev pub HaveSameBefore : ℕ → ℕ → Option Before → Option Before → Type 0
HaveSameBefore q q' None None = Unit {0}
HaveSameBefore q q' (Some (Switch f)) (Some (Switch f')) = (f ≡ q) × (f' ≡ q')
HaveSameBefore q q' before before' = ⊥

-- SAME REPORT: what two modulators, neither of which misses a frame, report.
pub record SameReports (plan : Plan) (one other : GivenItems) : Type 0 where
  -- Of each frame of which both have an item the lines differ in the numbers alone.
  pub frames : (t q q' : ℕ) (step step' : FeedStep) → IsItemOf one t q step → IsItemOf other t q' step'
      → AreLinesOfFrame plan t q q' (item_line step.item) (item_line step'.item)
  -- Behind the first item of each, the same stands before both.
  pub before : (t q q' : ℕ) (step step' : FeedStep) → IsItemOf one t q step → IsItemOf other t q' step' → 0 < q → 0 < q' → HaveSameBefore q q' step.before step'.before
  -- If both count from the same frame, they print the same, line for line;
  pub lines : one.first_frame ≡ other.first_frame → (q : ℕ) (step step' : FeedStep) → slice_get one.steps q ≡ Some step → slice_get other.steps q ≡ Some step'
      → step_text step ≡ step_text step'
  -- and as many items are the same text.
  pub text : one.first_frame ≡ other.first_frame → length one.steps ≡ length other.steps → steps_text one.steps ≡ steps_text other.steps

-- The two agree: in each frame that both give, in each reconfiguration, and, if neither misses a frame, in all that they report.
pub record AreAlike (plan : Plan) (one other : GivenItems) : Type 0 where
  pub frames : SameFrames plan one other
  pub reconfigurations : SameReconfigurations plan one other
  pub unbroken : AreAllFrames one.steps → AreAllFrames other.steps → SameReports plan one other

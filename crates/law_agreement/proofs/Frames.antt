-- The frames that a modulator gives.
use Rattle.std.proofs.Common.{ℕ, ◌≡◌, List, slice_get, Option, Some, refl, subst, arith}
use Rattle.std.specs.Prelude.{ℤ, pos, ◌+ℤ◌}
use Rattle.std.proofs.lemmas.Int.{ints}
use Rattle.drm_schedule.specs.declared.plan.Plan.{Plan}
use Rattle.mod_feed.specs.Feeding.{FeedStep}
use Rattle.law_delivery.specs.OtherCarry.{under}
use Rattle.law_delivery.specs.Sent.{pairs_in}
use Rattle.law_delivery.specs.Given.{IsServed, AreGiven, IsAFrame}
use Rattle.law_delivery.proofs.Seeing.{shown_in}
use Rattle.law_frame_lines.specs.Laws.{ServedLines, HasOneLine}
use Rattle.law_frame_lines.specs.Line.{line_of, IsFrameLine}
use Rattle.report_text.specs.Report.{item_line}
use Rattle.law_agreement.specs.Reconfigurations.{IsItemOf}
use Rattle.law_agreement.specs.Agreement.{AreLinesOfFrame}
use Rattle.law_agreement.specs.Modulators.{Modulator, Reception, ReportsSchedule, items_of}
use Rattle.law_agreement.proofs.OfSchedule.{line_of_schedule}
use Rattle.law_agreement.proofs.Reconfigurations.{seen_if}

-- the number of an item that is a frame counts to a frame of the schedule, and the item is that one
pub place_of : (plan : Plan) (window : ℕ) (first_frame : ℤ) (frame_limit : Option ℕ) (pairs : List (ℕ × ℕ)) (steps : List FeedStep) (q : ℕ) (step : FeedStep)
    → AreGiven plan window first_frame frame_limit pairs steps → slice_get steps q ≡ Some step → IsAFrame step.item
    → (t : ℕ) × ((first_frame +ℤ pos q) ≡ pos t) × IsServed plan t q step.item
place_of plan window first_frame frame_limit pairs steps q step given at frame =
    let (seen, shows) = seen_if step.item frame in
    let shown = shown_in plan window first_frame pairs q step.item seen (given.items q step at) shows in
    (shown.t, shown.at, shown.served)

-- the line of a frame that is given is that of the schedule's frame
pub its_line : ServedLines → (plan : Plan) (m : Modulator) (by : Reception) (reports : ReportsSchedule plan m by) (t q : ℕ) (step : FeedStep)
    → IsItemOf (items_of by reports.steps) t q step → IsAFrame step.item → IsFrameLine plan t q (item_line step.item)
its_line lines plan m by reports t q step (at, of) frame =
    let (t', of', served) = place_of (under by.carry plan) m.range.window by.first_frame m.range.frame_limit (pairs_in by.arrivals) reports.steps q step reports.given at frame in
    let same : t' ≡ t = omega (arith, ints, of, of') in
    let line : IsFrameLine (under by.carry plan) t' q (item_line step.item) = lines (under by.carry plan) t' q step.item served in
    line_of_schedule by.carry plan t q (item_line step.item) (subst (λ (n : ℕ). IsFrameLine (under by.carry plan) n q (item_line step.item)) same line)

-- two lines of one frame differ in the number alone
pub lines_of_frame : HasOneLine → (plan : Plan) (t q q' : ℕ) (line line' : List ℕ) → IsFrameLine plan t q line → IsFrameLine plan t q' line' → AreLinesOfFrame plan t q q' line line'
lines_of_frame law plan t q q' line line' x y = record {
  parts = y.parts;
  frame = y.frame;
  fac = y.fac;
  is_fac = y.is_fac;
  multiplex = y.multiplex;
  is_multiplex = y.is_multiplex;
  line_is = law plan t q line (line_of q y.parts y.fac y.multiplex) x
      (record { parts = y.parts; frame = y.frame; fac = y.fac; is_fac = y.is_fac; multiplex = y.multiplex; is_multiplex = y.is_multiplex; line_is = refl });
  line_is' = y.line_is;
}

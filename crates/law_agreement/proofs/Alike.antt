-- Any two modulators of one schedule agree.
use Rattle.std.proofs.Common.{ℕ, zero, suc, ◌≡◌, ◌<◌, List, slice_get, Some, sym, subst, ◌∙◌, arith}
use Rattle.std.specs.Prelude.{ℤ, pos, ◌+ℤ◌}
use Rattle.drm_schedule.specs.declared.plan.Plan.{Plan}
use Rattle.drm_schedule.specs.Valid.{IsSchedule}
use Rattle.mod_feed.specs.Feeding.{FeedStep}
use Rattle.law_delivery.specs.OtherCarry.{under}
use Rattle.law_delivery.specs.Sent.{pairs_in}
use Rattle.law_delivery.specs.Given.{AreAllFrames}
use Rattle.law_frame_lines.specs.Laws.{ServedLines, HasOneLine}
use Rattle.report_text.specs.Report.{item_line, step_text}
use Rattle.recv_report.specs.Headline.{ReportsSwitches}
use Rattle.law_agreement.specs.Reconfigurations.{GivenItems, IsItemOf, ReportsReconfigurations}
use Rattle.law_agreement.specs.Agreement.{AreLinesOfFrame, SameFrames, HaveSameBefore, SameReconfigurations, SameReports}
use Rattle.law_agreement.specs.Modulators.{Modulator, Reception, ReportsSchedule, items_of}
use Rattle.law_agreement.specs.Laws.{TwoModulators, ReceiversAreModulators, TwoReceivers}
use Rattle.law_agreement.specs.Modulators.{receiver}
use Rattle.law_agreement.proofs.OfSchedule.{switches_of_schedule, reconfigurations_of_schedule}
use Rattle.law_agreement.proofs.Reconfigurations.{reports_switches, reports_reconfigurations}
use Rattle.law_agreement.proofs.Frames.{place_of, its_line, lines_of_frame}
use Rattle.law_agreement.proofs.Unbroken.{same_before, equal_before, none_first, same_text, same_step_text}

-- what one modulator reports of reconfigurations, as of the schedule under its own carry
reconfigurations_of : (plan : Plan) (m : Modulator) (by : Reception) → IsSchedule (under by.carry plan) → (reports : ReportsSchedule plan m by) → ReportsReconfigurations plan (items_of by reports.steps)
reconfigurations_of plan m by valid reports =
    reconfigurations_of_schedule by.carry plan (items_of by reports.steps)
    (reports_reconfigurations (under by.carry plan) m.range.window by.first_frame m.range.frame_limit (pairs_in by.arrivals) reports.steps valid reports.given)

switches_of : (plan : Plan) (m : Modulator) (by : Reception) → IsSchedule (under by.carry plan) → (reports : ReportsSchedule plan m by) → ReportsSwitches plan by.first_frame reports.steps
switches_of plan m by valid reports =
    switches_of_schedule by.carry plan by.first_frame reports.steps
    (reports_switches (under by.carry plan) m.range.window by.first_frame m.range.frame_limit (pairs_in by.arrivals) reports.steps valid reports.given)

module _ (print : ServedLines) (law : HasOneLine) (plan : Plan) (m m' : Modulator) (by by' : Reception) (valid : IsSchedule (under by.carry plan)) (valid' : IsSchedule (under by'.carry plan))
    (reports : ReportsSchedule plan m by) (reports' : ReportsSchedule plan m' by') where
  abbrev one : GivenItems
  one = items_of by reports.steps

  abbrev other : GivenItems
  other = items_of by' reports'.steps

  same_frames : SameFrames plan one other
  same_frames t q q' step step' at at' frame frame' =
      lines_of_frame law plan t q q' (item_line step.item) (item_line step'.item) (its_line print plan m by reports t q step at frame) (its_line print plan m' by' reports' t q' step' at' frame')

  same_reconfigurations : SameReconfigurations plan one other
  same_reconfigurations =
      let first : ReportsReconfigurations plan one = reconfigurations_of plan m by valid reports in
      let second : ReportsReconfigurations plan other = reconfigurations_of plan m' by' valid' reports' in
      record {
        first = first;
        second = second;
        both = λ start can can'. ((first.exactly start).1 can, (second.exactly start).1 can');
        unless_missed = λ start switches has silent gives. silent ((second.exactly start).1 (gives, has));
      }

  module _ (all : AreAllFrames one.steps) (all' : AreAllFrames other.steps) where
    frames : (t q q' : ℕ) (step step' : FeedStep) → IsItemOf one t q step → IsItemOf other t q' step' → AreLinesOfFrame plan t q q' (item_line step.item) (item_line step'.item)
    frames t q q' step step' at at' = same_frames t q q' step step' at at' (all q step at.0) (all' q' step' at'.0)

    before : (t q q' : ℕ) (step step' : FeedStep) → IsItemOf one t q step → IsItemOf other t q' step' → 0 < q → 0 < q' → HaveSameBefore q q' step.before step'.before
    before t q q' step step' at at' above above' =
        same_before plan one.first_frame one.steps other.first_frame other.steps (switches_of plan m by valid reports) (switches_of plan m' by' valid' reports') all all' t q q' step step'
        at.0 at.1 at'.0 at'.1 above above'

    same_line : (q t : ℕ) (line line' : List ℕ) → AreLinesOfFrame plan t q q line line' → line ≡ line'
    same_line q t line line' is = is.line_is ∙ sym is.line_is'

    -- item q of the one is that of a frame of the schedule, and so is that of the other
    both_are : one.first_frame ≡ other.first_frame → (q : ℕ) (step step' : FeedStep) → slice_get one.steps q ≡ Some step → slice_get other.steps q ≡ Some step'
        → (t : ℕ) × IsItemOf one t q step × IsItemOf other t q step'
    both_are base q step step' at at' =
        let (t, of, served) = place_of (under by.carry plan) m.range.window by.first_frame m.range.frame_limit (pairs_in by.arrivals) reports.steps q step reports.given at (all q step at) in
        (t, (at, of), (at', subst (λ (z : ℤ). (z +ℤ pos q) ≡ pos t) base of))

    lines : one.first_frame ≡ other.first_frame → (q : ℕ) (step step' : FeedStep) → slice_get one.steps q ≡ Some step → slice_get other.steps q ≡ Some step' → step_text step ≡ step_text step'
    lines base zero step step' at at' =
        let (t, is, is') = both_are base 0 step step' at at' in
        same_step_text step step' (none_first plan one.first_frame one.steps step reports.given.before at ∙ sym (none_first plan other.first_frame other.steps step' reports'.given.before at'))
        (same_line 0 t (item_line step.item) (item_line step'.item) (frames t 0 0 step step' is is'))
    lines base (suc k) step step' at at' =
        let q : ℕ = suc k in
        let (t, is, is') = both_are base q step step' at at' in
        same_step_text step step' (equal_before q step.before step'.before (before t q q step step' is is' (omega arith) (omega arith)))
        (same_line q t (item_line step.item) (item_line step'.item) (frames t q q step step' is is'))

    same_reports : SameReports plan one other
    same_reports = record { frames = frames; before = before; lines = lines; text = λ base size. same_text one.steps other.steps size (lines base) }

pub two_modulators : ServedLines → HasOneLine → TwoModulators
two_modulators print law one other headline headline' plan by by' receives receives' =
    let this : ReportsSchedule plan one by = headline plan by receives in
    let that : ReportsSchedule plan other by' = headline' plan by' receives' in
    record {
      this = this;
      that = that;
      alike = record {
        frames = same_frames print law plan one other by by' receives.valid receives'.valid this that;
        reconfigurations = same_reconfigurations print law plan one other by by' receives.valid receives'.valid this that;
        unbroken = same_reports print law plan one other by by' receives.valid receives'.valid this that;
      };
    }

pub receivers_are : ReceiversAreModulators
receivers_are rules feed answers r headline plan by receives =
    let reports = headline (under by.carry plan) by.first_frame by.arrivals receives.valid receives.delivery in
    record { feed = feed; steps = reports.steps; given = reports.given; word = reports.word; text_is = reports.text_is; clean_is = reports.clean_is }

pub two_receivers : TwoModulators → ReceiversAreModulators → TwoReceivers
two_receivers modulators receivers rules rules' feed feed' ahead ahead' r r' this that =
    modulators (receiver rules this.answers r) (receiver rules' that.answers r') (receivers rules feed this.answers r this.headline) (receivers rules' feed' that.answers r' that.headline)

-- From a delivery over several paths to the report of it, by the laws of deliveries.
use Rattle.std.proofs.Common.{ℕ, suc, ◌≡◌, true, ◌&&◌, List, [], ◌∷◌, length, slice_get, Some, refl, ◌∙◌, ap, ap₂}
use Rattle.std.specs.Prelude.{ℤ, pos}
use Rattle.drm_schedule.specs.declared.plan.Plan.{Plan}
use Rattle.mod_feed.specs.Feeding.{FeedStep}
use Rattle.law_delivery.specs.Sent.{pairs_in}
use Rattle.law_delivery.specs.Given.{AreAllServed}
use Rattle.law_delivery.specs.Laws.{Delivering, AllFrames}
use Rattle.report_text.specs.Reports.{is_given, is_clean, report}
use Rattle.recv_report.proofs.Composing.{ItemLaws, foreign_noted, reports_switches, prints_frames, gives_in_time}
use Rattle.report_journal.specs.Report.{word_for}
use Rattle.law_paths.specs.Laws.{ReportsDeliveries, ReportsAll}

pub reports_deliveries : Delivering → ItemLaws → ReportsDeliveries
reports_deliveries law laws plan by first_frame arrivals received text clean schedule range followed r =
    let (given, suit) = law plan by.window by.reach by.first by.frame_limit first_frame arrivals received r.taken r.items r.steps r.after schedule range.0 followed r.run r.feeds in
    let pairs = pairs_in arrivals in
    record {
      steps = r.steps;
      given = given;
      in_time = gives_in_time laws plan by.window first_frame by.frame_limit pairs r.steps schedule given;
      printed = prints_frames laws plan r.steps;
      switches = reports_switches laws plan by.window first_frame by.frame_limit pairs r.steps schedule given;
      many = length r.run.during;
      before_the_end = (r.taken, r.run.during, r.run.mid, r.run.steps, refl);
      text_is = r.text_is ∙ ap (λ l. report 1 r.steps l (word_for by.frame_limit (length r.run.during))) (foreign_noted 0 arrivals r.taken suit);
      clean_is = r.clean_is;
    }

-- what is served is given, so nothing is missing
all_given : (steps : List FeedStep) → ((q : ℕ) (step : FeedStep) → slice_get steps q ≡ Some step → is_given step.item ≡ true) → is_clean steps ≡ true
all_given [] each = refl
all_given (step ∷ steps) each = ap₂ (λ a b. a && b) (each 0 step refl) (all_given steps (λ q other at. each (suc q) other at))

served_clean : (plan : Plan) (first_frame : ℤ) (steps : List FeedStep) → AreAllServed plan first_frame steps → is_clean steps ≡ true
served_clean plan first_frame steps all = all_given steps (λ q step at. let (t, is, served) = all q step at in ap is_given served.item_is)

pub reports_all : AllFrames → ReportsDeliveries → ReportsAll
reports_all law reported plan by arrivals received text clean schedule range known followed in_time r =
    let reports = reported plan by (pos 0) arrivals received text clean schedule range followed r in
    let (count, all) = law plan by.window by.reach by.frame_limit arrivals received by.first reports.steps schedule known followed in_time reports.given in
    record { reports = reports; count = count; all = all; nothing_missing = reports.clean_is ∙ served_clean plan (pos 0) reports.steps all }

-- Answers have one report.
use Rattle.std.proofs.Common.{◌≡◌, ℕ, ◌++◌, List, Option, sym, ◌∙◌, ap, ap₂, subst}
use Rattle.recv_reading.proofs.Common.{Taken, made, after_finish, CollectorItem, CollectorGives, CollectorRun, up_to, datagrams}
use Rattle.dcp_collect.proofs.Decoded.{one_decoding}
use Rattle.law_collect.proofs.Unique.{one_giving}
use Rattle.drm_reconfiguration.specs.Tracker.{new_tracker}
use Rattle.mod_feed.specs.Feeding.{FeedAnswers}
use Rattle.mod_feed.proofs.FeedingLemmas.{feeding_is_one}
use Rattle.report_text.specs.Reports.{refusals, report, is_clean}
use Rattle.recv_report.specs.OneReport.{IsOneReport}
use Rattle.recv_reading.proofs.OneReading.{one_word}
use Rattle.recv_reading.proofs.Reaching.{one_way}

pub runs_same : (window reach : ℕ) (first frame_limit : Option ℕ) (ds : List (List ℕ)) (taken taken' : List Taken) (items items' : List CollectorItem)
    → CollectorRun window reach first frame_limit ds taken items → CollectorRun window reach first frame_limit ds taken' items' → (taken' ≡ taken) × (items' ≡ items)
runs_same window reach first frame_limit ds taken taken' items items' r s =
    let (t, d, m) = one_way (made window reach first) r.mid s.mid ds taken taken' r.during s.during r.steps s.steps in
    let g : CollectorGives (after_finish r.mid frame_limit) s.rest s.after = subst (λ c. CollectorGives (after_finish c frame_limit) s.rest s.after) m s.gives in
    let e : s.rest ≡ r.rest = (one_giving one_decoding (after_finish r.mid frame_limit) r.after s.after r.rest s.rest r.gives g).0 in
    (t, s.are ∙ ap₂ (λ xs ys. up_to frame_limit (xs ++ ys)) d e ∙ sym r.are)

pub one_report : IsOneReport
one_report rules feed answers text text' clean clean' r s =
    let w : s.word ≡ r.word = one_word rules answers r.word s.word r.reading.ends s.reading.ends in
    let (t, i) = runs_same rules.window rules.reach rules.first rules.frames (datagrams answers) r.taken s.taken r.items s.items r.run s.run in
    let feeds : FeedAnswers new_tracker r.items s.steps s.after = subst (λ xs. FeedAnswers new_tracker xs s.steps s.after) i s.feeds in
    let e : s.steps ≡ r.steps = (feeding_is_one new_tracker r.after s.after r.items r.steps s.steps r.feeds feeds).0 in (
      s.text_is ∙ ap (λ l. report feed l (refusals s.taken) s.word) e ∙ ap (λ l. report feed r.steps (refusals l) s.word) t ∙ ap (report feed r.steps (refusals r.taken)) w ∙ sym r.text_is,
      s.clean_is ∙ ap is_clean e ∙ sym r.clean_is,
    )

-- From a delivery of a schedule to the report of it, by the laws of deliveries.
use Rattle.std.proofs.Common.{◌≡◌, ℕ, suc, ◌+◌, ◌<◌, ◌≤◌, ◌⊎◌, inl, inr, Bool, true, ◌&&◌, List, [], ◌∷◌, ◌++◌, length, take, drop, slice_get, Option, None, Some, refl, sym, ◌∙◌, ap, ap₂, subst, arith, ℤ, pos}
use Rattle.std.specs.List.{AllZip}
use Rattle.std.proofs.lemmas.Bool.{cases_lt}
use Rattle.std.proofs.lemmas.List.{append-nil, append_cancel_left, append_cancel_right, take-append-drop, take-append-le}
use Rattle.std.proofs.lemmas.List.Elements.{filter_map-append}
use Rattle.drm_schedule.specs.declared.plan.Plan.{Plan}
use Rattle.drm_schedule.specs.Valid.{IsSchedule}
use Rattle.recv_reading.proofs.Common.{Known, Answer, Failed, datagram_of, Output, OutputsText, Taken, made, up_to}
use Rattle.recv_reading.proofs.Common.{datagrams, HasGiven, ReadingEndsBy, ReadingGoesOn, IsFinished}
use Rattle.recv_reading.specs.declared.reason.EndWord.{EndWord}
use Rattle.recv_reading.specs.declared.options.ReceiveOptions.{ReceiveOptions}
use Rattle.drm_links.specs.Known.{IfBoth}
use Rattle.drm_links.specs.Link.{Traffic}
use Rattle.drm_links.proofs.KnownLemmas.{OutputsText-weaker}
use Rattle.dcp_collect.specs.declared.taken.Taken.TheVariants.{Kept, Repeated, Late, Refused, Inconsistent}
use Rattle.drm_reconfiguration.specs.Tracker.{new_tracker}
use Rattle.mod_feed.specs.Feeding.{FeedStep, FeedAnswers}
use Rattle.drm_timeline.specs.Numbers.{frame_count}
use Rattle.law_delivery.specs.Sent.{Arrival, OfSchedule, Foreign, pairs_in, IsDeliveryOf, IsInTime}
use Rattle.law_delivery.specs.Given.{AreGiven, AreAllServed}
use Rattle.law_delivery.specs.Laws.{AnswerSuits, Delivering, DeliveringEarly, ForeignRefused, GivenInTime, SwitchesAtStarts, AllSwitches, AllFrames}
use Rattle.recv_reading.specs.declared.reason.EndWord.TheVariants as word
use Rattle.drm_links.specs.Hearing.{AreNext, HeardThroughout, LinkHeard}
use Rattle.recv_reading.specs.Ending.{ReasonHolds}
use Rattle.report_text.specs.Reports.{is_given, refusals_from, report, is_clean}
use Rattle.recv_report.specs.Received.{IsReport, ReportWritten}
use Rattle.law_frame_lines.specs.Laws.{ServedLines}
use Rattle.recv_report.specs.Headline.{foreign_from, ReportsSwitches, GivesInTime, HeadlineOf, without_frames, WouldBeRead, ReportsAllFrames, AreNewAnswers, CompleteOf, Headline, CompleteHeadline, PrintsFrames}
use Rattle.recv_report.specs.Following.{HeadlinesFollow, CompletesFollow}
use Rattle.recv_reading.proofs.Reaching.{one_way}
use Rattle.recv_reading.proofs.OneReading.{next_front, not_shorter, same_next, next_split, goes_past}

-- ---- the foreign datagrams alone were refused

pub foreign_noted : (n : ℕ) (arrivals : List Arrival) (taken : List Taken) → AllZip AnswerSuits arrivals taken → refusals_from n taken ≡ foreign_from n arrivals
foreign_noted n [] [] suit = refl
foreign_noted n [] (a ∷ taken) suit = absurd suit
foreign_noted n (x ∷ arrivals) [] suit = absurd suit
foreign_noted n (OfSchedule pair ∷ arrivals) (Kept ∷ taken) suit = foreign_noted (n + 1) arrivals taken suit.1
foreign_noted n (OfSchedule pair ∷ arrivals) (Repeated ∷ taken) suit = foreign_noted (n + 1) arrivals taken suit.1
foreign_noted n (OfSchedule pair ∷ arrivals) (Late ∷ taken) suit = foreign_noted (n + 1) arrivals taken suit.1
foreign_noted n (OfSchedule pair ∷ arrivals) (Refused field ∷ taken) suit = absurd suit.0
foreign_noted n (OfSchedule pair ∷ arrivals) (Inconsistent kept came ∷ taken) suit = absurd suit.0
foreign_noted n (Foreign cause ∷ arrivals) (a ∷ taken) suit =
    ap (λ x. refusals_from n (x ∷ taken)) suit.0
    ∙ ap (λ l. record { number = n; taken = Refused cause } ∷ l) (foreign_noted (n + 1) arrivals taken suit.1)

-- ---- the laws of deliveries

-- what is said of the items of a delivery
pub record ItemLaws : Type 0 where
  pub in_time : GivenInTime
  pub at_starts : SwitchesAtStarts
  pub all_switches : AllSwitches
  pub lines : ServedLines

pub reports_switches : ItemLaws → (plan : Plan) (window : ℕ) (first_frame : ℤ) (frame_limit : Option ℕ) (pairs : List (ℕ × ℕ)) (steps : List FeedStep)
    → IsSchedule plan → AreGiven plan window first_frame frame_limit pairs steps → ReportsSwitches plan first_frame steps
reports_switches laws plan window first_frame frame_limit pairs steps schedule given = record {
  only = λ q f at. laws.at_starts plan window first_frame frame_limit pairs steps q f schedule given at;
  each = λ all start q stands is some within. (laws.all_switches plan window first_frame frame_limit pairs steps schedule given all).0 start q stands is some within;
  none_resumed = λ all q p at. (laws.all_switches plan window first_frame frame_limit pairs steps schedule given all).1 q p at;
}

pub prints_frames : ItemLaws → (plan : Plan) (steps : List FeedStep) → PrintsFrames plan steps
prints_frames laws plan steps = λ q t step at served. laws.lines plan t q step.item served

pub gives_in_time : ItemLaws → (plan : Plan) (window : ℕ) (first_frame : ℤ) (frame_limit : Option ℕ) (pairs : List (ℕ × ℕ)) (steps : List FeedStep)
    → IsSchedule plan → AreGiven plan window first_frame frame_limit pairs steps → GivesInTime plan window first_frame pairs steps
gives_in_time laws plan window first_frame frame_limit pairs steps schedule given = λ q step time at.
    laws.in_time plan window first_frame frame_limit pairs steps q step schedule given time at

-- ---- the headline

-- what is reported of a delivery is what it calls for
pub headline : Delivering → ItemLaws → (rules : ReceiveOptions) (feed : ℕ) (answers : List Answer) (text : List ℕ) (clean : Bool) → 1 ≤ rules.window
    → IsReport rules feed answers text clean → HeadlineOf rules feed answers text clean
headline law laws rules feed answers text clean some r plan first_frame arrivals schedule followed =
    let (given, suit) = law plan rules.window rules.reach rules.first rules.frames first_frame arrivals (datagrams answers) r.taken r.items r.steps r.after schedule some followed r.run r.feeds in
    let pairs = pairs_in arrivals in
    record {
      steps = r.steps;
      given = given;
      in_time = gives_in_time laws plan rules.window first_frame rules.frames pairs r.steps schedule given;
      printed = prints_frames laws plan r.steps;
      switches = reports_switches laws plan rules.window first_frame rules.frames pairs r.steps schedule given;
      word = r.word;
      reading = r.reading;
      text_is = r.text_is ∙ ap (λ l. report feed r.steps l r.word) (foreign_noted 0 arrivals r.taken suit);
      clean_is = r.clean_is;
    }

-- ---- all frames are given

all_given : (steps : List FeedStep) → ((q : ℕ) (step : FeedStep) → slice_get steps q ≡ Some step → is_given step.item ≡ true) → is_clean steps ≡ true
all_given [] each = refl
all_given (step ∷ steps) each =
    ap₂ (λ a b. a && b) (each 0 step refl) (all_given steps (λ q other e. each (suc q) other e))

served_clean : (plan : Plan) (first_frame : ℤ) (steps : List FeedStep) → AreAllServed plan first_frame steps → is_clean steps ≡ true
served_clean plan first_frame steps all = all_given steps (λ q step e. let (t, is, served) = all q step e in ap is_given served.item_is)

-- what is known of the frames makes the text that of all frames
modulates_all : AllFrames → ItemLaws → (plan : Plan) (rules : ReceiveOptions) (frame_limit : Option ℕ) (feed : ℕ) (ahead rest answers : List Answer) (arrivals : List Arrival) (ds : List (List ℕ)) (text : List ℕ) (clean : Bool)
    → AreNext ahead answers rest → (r : IsReport rules feed answers text clean)
    → IsSchedule plan → (frame_limit ≡ None) ⊎ (frame_limit ≡ Some (frame_count plan)) → IsDeliveryOf plan rules.reach rules.first (pos 0) arrivals ds
    → ((q : ℕ) → q < frame_count plan → IsInTime plan rules.window (pos 0) (pairs_in arrivals) q)
    → AreGiven plan rules.window (pos 0) frame_limit (pairs_in arrivals) r.steps → AllZip AnswerSuits (take (length (datagrams answers)) arrivals) r.taken
    → ReportsAllFrames plan rules feed arrivals ahead text clean
modulates_all law laws plan rules frame_limit feed ahead rest answers arrivals ds text clean next r schedule known followed in_time given suit =
    let (many, all) = law plan rules.window rules.reach frame_limit arrivals ds rules.first r.steps schedule known followed in_time given in
    record {
      steps = r.steps;
      many = many;
      all = all;
      printed = prints_frames laws plan r.steps;
      switches = reports_switches laws plan rules.window (pos 0) frame_limit (pairs_in arrivals) r.steps schedule given;
      word = r.word;
      answers = answers;
      reading = record { rest = rest; next = next; ends = r.reading };
      text_is = r.text_is ∙ ap (λ l. report feed r.steps l r.word) (foreign_noted 0 (take (length (datagrams answers)) arrivals) r.taken suit);
      clean_is = r.clean_is ∙ served_clean plan (pos 0) r.steps all;
    }

-- ---- with and without a told number

-- a reason to end without a told number is one with it
holds_without : (rules : ReceiveOptions) (xs : List Answer) (w : EndWord) → ReadingEndsBy (without_frames rules) xs w → ReasonHolds rules xs w
holds_without rules xs word.Frames e = absurd e
holds_without rules xs word.Limit e = e.0
holds_without rules xs word.Idle e = e.0
holds_without rules xs word.Input e = e.0
holds_without rules xs word.Paths e = e

-- what is read with a told number is no longer than what is read without
no_longer : (rules : ReceiveOptions) (ahead r s : List Answer) (xs ys : List Answer) (v w : EndWord) → AreNext ahead xs r → AreNext ahead ys s → IsFinished rules xs v → IsFinished (without_frames rules) ys w → length ys < length xs → ⊥
no_longer rules ahead r s xs ys v w p q f g l = not_shorter rules ahead s r ys xs w q p (holds_without rules ys w g.ends) f.goes_on l

-- where it doesn't end by the told number, it is the same
same_without : (rules : ReceiveOptions) (ahead r s : List Answer) (xs ys : List Answer) (v w : EndWord) → AreNext ahead xs r → AreNext ahead ys s → IsFinished rules xs v → IsFinished (without_frames rules) ys w → ReasonHolds (without_frames rules) xs v → xs ≡ ys
same_without rules ahead r s xs ys v w p q f g h =
    same_next ahead r s xs ys p q (not_shorter (without_frames rules) ahead r s xs ys v p q h g.goes_on) (no_longer rules ahead r s xs ys v w p q f g)

-- a list of answers that isn't longer than another one is its front
front_of : (ahead r s : List Answer) (xs ys : List Answer) → AreNext ahead xs r → AreNext ahead ys s → (length ys < length xs → ⊥) → (later : List Answer) × (ys ≡ xs ++ later)
front_of ahead r s xs ys p q not =
    let l : length xs ≤ length ys = elim (cases_lt (length ys) (length xs)) [
      | inl less ↦ absurd (not less)
      | inr most ↦ most
    ] in
    let e : xs ≡ take (length xs) ys = next_front ahead r s xs ys p q l in
    (drop (length xs) ys, sym (take-append-drop (length xs) ys) ∙ ap (λ z. z ++ drop (length xs) ys) (sym e))

-- what is read is a front of what would be
read_front : (rules : ReceiveOptions) (ahead rest : List Answer) (answers others : List Answer) (w : EndWord) → AreNext ahead answers rest → IsFinished rules answers w → WouldBeRead rules ahead others
    → (later : List Answer) × (others ≡ answers ++ later)
read_front rules ahead rest answers others w next f (inl (v, of)) =
    front_of ahead rest of.rest answers others next of.next (no_longer rules ahead rest of.rest answers others w v next of.next f of.ends)
read_front rules ahead rest answers others w next f (inr (frame_limit, of)) =
    let half = next_split ahead of.rest others (Failed ∷ []) of.next in
    front_of ahead rest half.0 answers others next half.1 (goes_past rules ahead rest of.rest answers others next of.next f.goes_on)

-- where it doesn't end by the told number, it is all of that
read_all : (rules : ReceiveOptions) (ahead rest : List Answer) (answers others : List Answer) (w : EndWord) → AreNext ahead answers rest → IsFinished rules answers w → WouldBeRead rules ahead others
    → ReasonHolds (without_frames rules) answers w → answers ≡ others
read_all rules ahead rest answers others w next f (inl (v, of)) holds = same_without rules ahead rest of.rest answers others w v next of.next f of.ends holds
read_all rules ahead rest answers others w next f (inr (frame_limit, of)) holds =
    let half = next_split ahead of.rest others (Failed ∷ []) of.next in
    let broken = of.ends.1 in
    let same : others ≡ of.ends.0 = append_cancel_right others of.ends.0 (Failed ∷ []) broken.last in
    let goes_on : ReadingGoesOn (without_frames rules) others = subst (ReadingGoesOn (without_frames rules)) (sym same) broken.goes_on in
    let equal : answers ≡ of.ends.0 =
    same_next ahead rest half.0 answers others next half.1 (not_shorter (without_frames rules) ahead rest half.0 answers others w next half.1 holds goes_on)
    (goes_past rules ahead rest of.rest answers others next of.next f.goes_on) ∙ same in
    absurd (broken.is_open w (subst (λ l. ReasonHolds (without_frames rules) l w) equal holds))

-- the laws of whole deliveries and of fronts of them
pub record DeliveryLaws : Type 0 where
  pub whole : Delivering
  pub early : DeliveringEarly
  pub refused : ForeignRefused
  pub all_frames : AllFrames
  pub items : ItemLaws

module _ (laws : DeliveryLaws) (rules : ReceiveOptions) (feed : ℕ) (ahead rest answers : List Answer) (text : List ℕ) (clean : Bool) (plan : Plan) (arrivals : List Arrival)
    (some : 1 ≤ rules.window) (next : AreNext ahead answers rest) (r : IsReport rules feed answers text clean) (schedule : IsSchedule plan)
    (in_time : (q : ℕ) → q < frame_count plan → IsInTime plan rules.window (pos 0) (pairs_in arrivals) q) where
  suits : (later : List (List ℕ)) → IsDeliveryOf plan rules.reach rules.first (pos 0) arrivals (datagrams answers ++ later) → AllZip AnswerSuits (take (length (datagrams answers)) arrivals) r.taken
  suits later followed =
      laws.refused plan rules.window rules.reach rules.first (pos 0) arrivals (datagrams answers) later r.taken r.run.during r.run.mid schedule some followed r.run.steps

  -- where the reading ends by the told number
  complete_early : (n : ℕ) (later : List (List ℕ)) → HasGiven rules answers (Some n) → rules.frames ≡ Some n → n ≡ frame_count plan
      → IsDeliveryOf plan rules.reach rules.first (pos 0) arrivals (datagrams answers ++ later) → ReportsAllFrames plan rules feed arrivals ahead text clean
  complete_early n later (taken, items, end, gave, enough) frame_limit size followed =
      let same : r.run.during ≡ items = (one_way (made rules.window rules.reach rules.first) end r.run.mid (datagrams answers) taken r.taken items r.run.during gave r.run.steps).1 in
      let long : length r.run.during ≡ length items = ap length same in
      let l : n ≤ length r.run.during = omega (arith, long, enough) in
      let are : r.items ≡ take n r.run.during = r.run.are ∙ ap (λ t. up_to t (r.run.during ++ r.run.rest)) frame_limit ∙ take-append-le n r.run.during r.run.rest l in
      let feeds : FeedAnswers new_tracker (take n r.run.during) r.steps r.after = subst (λ xs. FeedAnswers new_tracker xs r.steps r.after) are r.feeds in
      let given : AreGiven plan rules.window (pos 0) (Some n) (pairs_in arrivals) r.steps =
      laws.early plan rules.window rules.reach n rules.first (pos 0) arrivals (datagrams answers) later r.taken r.run.during r.run.mid r.steps r.after schedule some followed r.run.steps l feeds in
      modulates_all laws.all_frames laws.items plan rules (Some n) feed ahead rest answers arrivals (datagrams answers ++ later) text clean next r schedule (inr (ap Some size)) followed in_time given (suits later followed)

  -- where it ends otherwise
  complete_same : (rules.frames ≡ None) ⊎ (rules.frames ≡ Some (frame_count plan)) → IsDeliveryOf plan rules.reach rules.first (pos 0) arrivals (datagrams answers) → ReportsAllFrames plan rules feed arrivals ahead text clean
  complete_same known followed =
      let given = (laws.whole plan rules.window rules.reach rules.first rules.frames (pos 0) arrivals (datagrams answers) r.taken r.items r.steps r.after schedule some followed r.run r.feeds).0 in
      let suit = suits [] (subst (IsDeliveryOf plan rules.reach rules.first (pos 0) arrivals) (sym (append-nil (datagrams answers))) followed) in
      modulates_all laws.all_frames laws.items plan rules rules.frames feed ahead rest answers arrivals (datagrams answers) text clean next r schedule known followed in_time given suit

  complete_whole : (others : List Answer) (w : EndWord) → IsFinished rules answers w → WouldBeRead rules ahead others → IsDeliveryOf plan rules.reach rules.first (pos 0) arrivals (datagrams others)
      → (rules.frames ≡ None) ⊎ (rules.frames ≡ Some (frame_count plan)) → ReasonHolds (without_frames rules) answers w → ReportsAllFrames plan rules feed arrivals ahead text clean
  complete_whole others w f would followed known holds =
      complete_same known (subst (λ l. IsDeliveryOf plan rules.reach rules.first (pos 0) arrivals (datagrams l)) (sym (read_all rules ahead rest answers others w next f would holds)) followed)

  -- by why the reading ends
  complete_by : (others : List Answer) (w : EndWord) → IsFinished rules answers w → WouldBeRead rules ahead others
      → IsDeliveryOf plan rules.reach rules.first (pos 0) arrivals (datagrams others) → (rules.frames ≡ None) ⊎ (rules.frames ≡ Some (frame_count plan)) → ReportsAllFrames plan rules feed arrivals ahead text clean
  complete_by others word.Frames f would followed (inl none) = absurd (subst (HasGiven rules answers) none f.ends)
  complete_by others word.Frames f would followed (inr frame_limit) =
      let (later, are) = read_front rules ahead rest answers others word.Frames next f would in
      let joined : datagrams others ≡ datagrams answers ++ datagrams later = ap datagrams are ∙ filter_map-append datagram_of answers later in
      complete_early (frame_count plan) (datagrams later) (subst (HasGiven rules answers) frame_limit f.ends) frame_limit refl (subst (IsDeliveryOf plan rules.reach rules.first (pos 0) arrivals) joined followed)
  complete_by others word.Limit f would followed known = complete_whole others word.Limit f would followed known f.ends.0
  complete_by others word.Idle f would followed known = complete_whole others word.Idle f would followed known f.ends.0
  complete_by others word.Input f would followed known = complete_whole others word.Input f would followed known f.ends.0
  complete_by others word.Paths f would followed known = absurd f.ends

-- where each frame is in time, all of them are given
pub complete : DeliveryLaws → (rules : ReceiveOptions) (feed : ℕ) (ahead answers rest : List Answer) (text : List ℕ) (clean : Bool) → 1 ≤ rules.window
    → AreNext ahead answers rest → IsReport rules feed answers text clean → CompleteOf rules feed ahead text clean
complete laws rules feed ahead answers rest text clean some next r plan arrivals others schedule would followed known in_time =
    complete_by laws rules feed ahead rest answers text clean plan arrivals some next r schedule in_time others r.word r.reading would followed known

-- ---- of a link and a sink

headline_heard : HeadlinesFollow → (rules : ReceiveOptions) (feed : ℕ) (before after : Option Traffic) (a b : Known Output) (clean : Bool) (heard : List Answer) (whole : List ℕ) → 1 ≤ rules.window
    → HeardThroughout heard before after → IsReport rules feed heard whole clean → OutputsText a b (λ t. t ≡ whole)
    → IfBoth before after (λ x y. (answers : List Answer) → AreNewAnswers answers x y → OutputsText a b (λ t. HeadlineOf rules feed answers t clean))
headline_heard law rules feed None after a b clean heard whole some h is text = tt
headline_heard law rules feed (Some x) None a b clean heard whole some h is text = tt
headline_heard law rules feed (Some x) (Some y) a b clean heard whole some h is text = λ answers new.
    let same : answers ≡ heard = append_cancel_left x.answers answers heard (sym new ∙ h.given) in
    OutputsText-weaker (λ t. t ≡ whole) (λ t. HeadlineOf rules feed answers t clean) a b text
    (λ t e. subst (λ l. HeadlineOf rules feed l t clean) (sym same) (subst (λ l. HeadlineOf rules feed heard l clean) (sym e) (law rules feed heard whole clean some is)))

pub receives_headline : HeadlinesFollow → (rules : ReceiveOptions) (feed : ℕ) (before after : Known Traffic) (a b : Known Output) (clean : Bool) → 1 ≤ rules.window
    → ReportWritten rules feed (LinkHeard before after) a b clean → Headline rules feed before after a b clean
receives_headline law rules feed before after a b clean some r =
    headline_heard law rules feed before.contents after.contents a b clean r.answers r.whole some r.heard r.is r.text

complete_heard : CompletesFollow → (rules : ReceiveOptions) (feed : ℕ) (before after : Option Traffic) (a b : Known Output) (clean : Bool) (heard : List Answer) (whole : List ℕ) → 1 ≤ rules.window
    → HeardThroughout heard before after → IsReport rules feed heard whole clean → OutputsText a b (λ t. t ≡ whole)
    → IfBoth before after (λ x y. OutputsText a b (λ t. CompleteOf rules feed x.ahead t clean))
complete_heard law rules feed None after a b clean heard whole some h is text = tt
complete_heard law rules feed (Some x) None a b clean heard whole some h is text = tt
complete_heard law rules feed (Some x) (Some y) a b clean heard whole some h is text =
    OutputsText-weaker (λ t. t ≡ whole) (λ t. CompleteOf rules feed x.ahead t clean) a b text
    (λ t e. subst (λ l. CompleteOf rules feed x.ahead l clean) (sym e) (law rules feed x.ahead heard y.ahead whole clean some h.ahead is))

pub receives_complete : CompletesFollow → (rules : ReceiveOptions) (feed : ℕ) (before after : Known Traffic) (a b : Known Output) (clean : Bool) → 1 ≤ rules.window
    → ReportWritten rules feed (LinkHeard before after) a b clean → CompleteHeadline rules feed before after a b clean
receives_complete law rules feed before after a b clean some r =
    complete_heard law rules feed before.contents after.contents a b clean r.answers r.whole some r.heard r.is r.text

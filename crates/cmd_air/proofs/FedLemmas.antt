-- What is read of a link that brings the datagrams of a feed, and then nothing.
use Rattle.std.proofs.Common.{◌≡◌, ℕ, zero, suc, ◌+◌, ◌<◌, ◌≤◌, ◌⊎◌, inl, inr, List, [], ◌∷◌, ◌++◌, length, map, take, Some, refl, sym, ◌∙◌, ap, subst, arith, length-append}
use Rattle.std.specs.Prelude.{ℤ, pos}
use Rattle.std.specs.List.{AllByRecursion}
use Rattle.std.proofs.lemmas.List.{take-append-le}
use Rattle.drm_links.specs.Link.{Answer, Datagram, Idle, End}
use Rattle.law_collect.specs.Laws.{OneRun}
use Rattle.dcp_collect.specs.CollectorState.{made}
use Rattle.drm_schedule.specs.declared.plan.Plan.{Plan}
use Rattle.drm_schedule.specs.Valid.{IsSchedule}
use Rattle.mod_feed.specs.Feeding.{FeedAnswers}
use Rattle.drm_reconfiguration.specs.Tracker.{new_tracker}
use Rattle.drm_timeline.specs.Numbers.{frame_count}
use Rattle.law_delivery.specs.Sent.{AreSent, Arrival, OfSchedule, pairs_in, IsDeliveryOf, IsInTime}
use Rattle.law_delivery.specs.Given.{AreGiven}
use Rattle.recv_reading.specs.declared.reason.EndWord.{EndWord}
use Rattle.recv_reading.specs.declared.reason.EndWord.TheVariants as word
use Rattle.drm_links.specs.Hearing.{AreNext}
use Rattle.recv_reading.specs.declared.options.ReceiveOptions.{ReceiveOptions}
use Rattle.recv_reading.specs.Ending.{datagrams, idles, ReasonHolds, IsReadingOpen, HasNotFailed, ReadingEndsBy}
use Rattle.report_text.specs.Reports.{refusals, report, Report}
use Rattle.recv_report.specs.Headline.{foreign_from, ReportsDelivery, ReportsAllFrames, without_frames, WouldBeRead}
use Rattle.recv_report.specs.Ahead.{IsReportOf}
use Rattle.cmd_air.specs.Air.{air_rules}
use Rattle.recv_report.proofs.Composing.{DeliveryLaws, reports_switches, gives_in_time, prints_frames, foreign_noted}

-- ---- the answers

-- nothing is left, and so all answers are idle
all_idle : (answers rest : List Answer) → AreNext [] answers rest → (datagrams answers ≡ []) × AllByRecursion HasNotFailed answers
all_idle [] rest next = (refl, tt)
all_idle (a ∷ answers) rest next =
    let more = all_idle answers rest next.1 in (
      ap (λ b. datagrams (b ∷ answers)) next.0 ∙ more.0,
      (subst HasNotFailed (sym next.0) tt, more.1),
    )

-- no answer failed
pub none_failed : (brought : List (List ℕ)) (answers rest : List Answer) → AreNext (map Datagram brought) answers rest → AllByRecursion HasNotFailed answers
none_failed brought [] rest next = tt
none_failed [] (a ∷ answers) rest next = (all_idle (a ∷ answers) rest next).1
none_failed (d ∷ brought) (a ∷ answers) rest next = (subst HasNotFailed (sym next.0) tt, none_failed brought answers rest next.1)

-- those that came are a front of those that were brought
pub front_received : (brought : List (List ℕ)) (answers rest : List Answer) → AreNext (map Datagram brought) answers rest
    → (later : List (List ℕ)) × (brought ≡ datagrams answers ++ later)
front_received brought [] rest next = (brought, refl)
front_received [] (a ∷ answers) rest next = ([], sym (ap (λ l. l ++ []) (all_idle (a ∷ answers) rest next).0))
front_received (d ∷ brought) (a ∷ answers) rest next =
    let more = front_received brought answers rest next.1 in
    (more.0, ap (λ l. d ∷ l) more.1 ∙ sym (ap (λ b. datagrams (b ∷ answers) ++ more.0) next.0))

-- after an idle answer all came
pub all_received : (brought : List (List ℕ)) (answers rest : List Answer) → AreNext (map Datagram brought) answers rest
    → (idles answers ≡ 0) ⊎ (datagrams answers ≡ brought)
all_received brought [] rest next = inl refl
all_received [] (a ∷ answers) rest next = inr (all_idle (a ∷ answers) rest next).0
all_received (d ∷ brought) (a ∷ answers) rest next =
    elim (all_received brought answers rest next.1) [
      | inl none ↦ inl (ap (λ b. idles (b ∷ answers)) next.0 ∙ none)
      | inr all ↦ inr (ap (λ b. datagrams (b ∷ answers)) next.0 ∙ ap (λ l. d ∷ l) all)
    ]

-- no link says that nothing comes any more
pub never_ends : (brought : List (List ℕ)) (answers rest before : List Answer) → AreNext (map Datagram brought) answers rest → answers ≡ before ++ End ∷ [] → ⊥
never_ends brought [] rest [] next e = cc
never_ends brought [] rest (b ∷ before) next e = cc
never_ends [] (a ∷ answers) rest [] next e = let idle : a ≡ Idle = next.0 in cc
never_ends (d ∷ brought) (a ∷ answers) rest [] next e = let received : a ≡ Datagram d = next.0 in cc
never_ends [] (a ∷ answers) rest (b ∷ before) next e = never_ends [] answers rest before next.1 cc
never_ends (d ∷ brought) (a ∷ answers) rest (b ∷ before) next e = never_ends brought answers rest before next.1 cc

-- ---- what would be read without a told number

abbrev pub all_answers : List (List ℕ) → List Answer
all_answers brought = map Datagram brought ++ Idle ∷ []

next_all : (brought : List (List ℕ)) → AreNext (map Datagram brought) (all_answers brought) []
next_all [] = (refl, refl)
next_all (d ∷ brought) = (refl, next_all brought)

sound_all : (brought : List (List ℕ)) → AllByRecursion HasNotFailed (all_answers brought)
sound_all [] = (tt, tt)
sound_all (d ∷ brought) = (tt, sound_all brought)

pub received_all : (brought : List (List ℕ)) → datagrams (all_answers brought) ≡ brought
received_all [] = refl
received_all (d ∷ brought) = ap (λ l. d ∷ l) (received_all brought)

idle_all : (brought : List (List ℕ)) → idles (all_answers brought) ≡ 1
idle_all [] = refl
idle_all (d ∷ brought) = idle_all brought

-- a shorter front has no idle answer, and no more datagrams
front_idles : (brought : List (List ℕ)) (k : ℕ) → k < length (all_answers brought) → idles (take k (all_answers brought)) ≡ 0
front_idles [] zero shorter = refl
front_idles [] (suc k) shorter = absurd (omega arith)
front_idles (d ∷ brought) zero shorter = refl
front_idles (d ∷ brought) (suc k) shorter = front_idles brought k (omega arith)

front_many : (brought : List (List ℕ)) (k : ℕ) → length (datagrams (take k (all_answers brought))) ≤ length brought
front_many [] zero = omega arith
front_many [] (suc zero) = omega arith
front_many [] (suc (suc k)) = omega arith
front_many (d ∷ brought) zero = omega arith
front_many (d ∷ brought) (suc k) = let more = front_many brought k in omega (arith, more)

no_end_taken : (k : ℕ) (before : List Answer) → take k [] ≡ before ++ End ∷ [] → ⊥
no_end_taken zero [] e = cc
no_end_taken zero (b ∷ before) e = cc
no_end_taken (suc k) [] e = cc
no_end_taken (suc k) (b ∷ before) e = cc

front_unended : (brought : List (List ℕ)) (k : ℕ) (before : List Answer) → take k (all_answers brought) ≡ before ++ End ∷ [] → ⊥
front_unended [] zero [] e = cc
front_unended [] zero (b ∷ before) e = cc
front_unended [] (suc k) [] e = cc
front_unended [] (suc k) (b ∷ before) e = no_end_taken k before cc
front_unended (d ∷ brought) zero [] e = cc
front_unended (d ∷ brought) zero (b ∷ before) e = cc
front_unended (d ∷ brought) (suc k) [] e = cc
front_unended (d ∷ brought) (suc k) (b ∷ before) e = front_unended brought k before cc

front_open : (rules : ReceiveOptions) (brought : List (List ℕ)) → rules.idle ≡ 1 → length brought < rules.limit → (k : ℕ) → k < length (all_answers brought) → IsReadingOpen (without_frames rules) (take k (all_answers brought))
front_open rules brought idle few k shorter word.Frames holds = holds
front_open rules brought idle few k shorter word.Limit holds = let many = front_many brought k in omega (arith, many, holds, few)
front_open rules brought idle few k shorter word.Idle holds = let none = front_idles brought k shorter in omega (arith, none, holds, idle)
front_open rules brought idle few k shorter word.Input holds = front_unended brought k holds.0 holds.1
front_open rules brought idle few k shorter word.Paths holds = holds

pub would_be_read : (rules : ReceiveOptions) (brought : List (List ℕ)) → rules.idle ≡ 1 → length brought < rules.limit → WouldBeRead rules (map Datagram brought) (all_answers brought)
would_be_read rules brought idle few = inl (
  word.Idle,
  record {
    rest = [];
    next = next_all brought;
    ends = record {
      goes_on = record { sound = sound_all brought; shorter = front_open rules brought idle few };
      ends = (
        (let one = idle_all brought in omega (arith, one, idle)),
        (λ holds. holds),
        (λ holds. let same = ap (λ l. length l) (received_all brought) in omega (arith, same, holds, few)),
      );
    };
  },
)

-- ---- deliveries

pub sent_many : (plan : Plan) (pairs : List (ℕ × ℕ)) (brought : List (List ℕ)) → AreSent plan pairs brought → length brought ≡ length pairs
sent_many plan [] [] sent = refl
sent_many plan [] (d ∷ brought) sent = absurd sent
sent_many plan (p ∷ pairs) [] sent = absurd sent
sent_many plan (p ∷ pairs) (d ∷ brought) sent = let more = sent_many plan pairs brought sent.1 in omega (arith, more)

-- there are no foreign datagrams
pairs_again : (pairs : List (ℕ × ℕ)) → pairs_in (map OfSchedule pairs) ≡ pairs
pairs_again [] = refl
pairs_again (p ∷ pairs) = ap (λ l. p ∷ l) (pairs_again pairs)

no_foreign : (n : ℕ) (pairs : List (ℕ × ℕ)) → foreign_from n (map OfSchedule pairs) ≡ []
no_foreign n [] = refl
no_foreign n (p ∷ pairs) = no_foreign (n + 1) pairs

front_arrives : (n : ℕ) (pairs : List (ℕ × ℕ)) → take n (map OfSchedule pairs) ≡ map OfSchedule (take n pairs)
front_arrives zero pairs = refl
front_arrives (suc n) [] = refl
front_arrives (suc n) (p ∷ pairs) = ap (λ l. OfSchedule p ∷ l) (front_arrives n pairs)

-- ---- the report of a feed is that of its whole delivery

module _ (one_run : OneRun) (laws : DeliveryLaws) (plan : Plan) (window number : ℕ) (first_frame : ℤ) (pairs : List (ℕ × ℕ)) (brought : List (List ℕ)) (r : Report)
    (valid : IsSchedule plan) (some : 1 ≤ window) (few : length brought < 4294967295) (followed : IsDeliveryOf plan 32767 (Some plan.seq) first_frame (map OfSchedule pairs) brought)
    (of : IsReportOf (air_rules plan window) number (map Datagram brought) r) where
  abbrev arrivals : List Arrival
  arrivals = map OfSchedule pairs

  -- a reading that ended by the told number
  early : ReasonHolds (air_rules plan window) of.answers word.Frames → ReportsDelivery plan (air_rules plan window) number first_frame arrivals of.answers r.text r.clean
  early holds =
      let is = of.is in
      let n : ℕ = frame_count plan in
      let received = front_received brought of.answers of.rest of.next in
      let whole : IsDeliveryOf plan 32767 (Some plan.seq) first_frame arrivals (datagrams of.answers ++ received.0) = subst (λ l. IsDeliveryOf plan 32767 (Some plan.seq) first_frame arrivals l) received.1 followed in
      let same : is.run.during ≡ holds.1 = (one_run (made window 32767 (Some plan.seq)) holds.2 is.run.mid (datagrams of.answers) holds.0 is.taken holds.1 is.run.during holds.3 is.run.steps).1 in
      let many : n ≤ length is.run.during = subst (λ l. n ≤ length l) (sym same) holds.4 in
      let items : is.items ≡ take n is.run.during = is.run.are ∙ take-append-le n is.run.during is.run.rest many in
      let suit = laws.refused plan window 32767 (Some plan.seq) first_frame arrivals (datagrams of.answers) received.0 is.taken is.run.during is.run.mid valid some whole is.run.steps in
      let size : ℕ = length (datagrams of.answers) in
      let none : refusals is.taken ≡ foreign_from 0 arrivals =
      foreign_noted 0 (take size arrivals) is.taken suit ∙ ap (foreign_from 0) (front_arrives size pairs) ∙ no_foreign 0 (take size pairs) ∙ sym (no_foreign 0 pairs) in
      let given : AreGiven plan window first_frame (Some n) (pairs_in arrivals) is.steps =
      laws.early plan window 32767 n (Some plan.seq) first_frame arrivals (datagrams of.answers) received.0 is.taken is.run.during is.run.mid is.steps is.after
      valid some whole is.run.steps many (subst (λ l. FeedAnswers new_tracker l is.steps is.after) items is.feeds) in
      record {
        steps = is.steps;
        given = given;
        in_time = gives_in_time laws.items plan window first_frame (Some n) (pairs_in arrivals) is.steps valid given;
        printed = prints_frames laws.items plan is.steps;
        switches = reports_switches laws.items plan window first_frame (Some n) (pairs_in arrivals) is.steps valid given;
        word = is.word;
        reading = is.reading;
        text_is = is.text_is ∙ ap (λ l. report number is.steps l is.word) none;
        clean_is = is.clean_is;
      }

  headline_by : (w : EndWord) → ReadingEndsBy (air_rules plan window) of.answers w → ReportsDelivery plan (air_rules plan window) number first_frame arrivals of.answers r.text r.clean
  headline_by word.Frames ends = early ends
  headline_by word.Limit ends =
      let received = front_received brought of.answers of.rest of.next in
      let size : length brought ≡ length (datagrams of.answers) + length received.0 = ap (λ l. length l) received.1 ∙ length-append (datagrams of.answers) received.0 in
      let limit : length (datagrams of.answers) ≡ 4294967295 = ends.0 in
      absurd (omega (arith, size, limit, few))
  headline_by word.Idle ends =
      elim (all_received brought of.answers of.rest of.next) [
        | inl none ↦ absurd (let idle : 1 ≤ idles of.answers = ends.0 in omega (arith, none, idle))
        | inr all ↦ of.headline plan first_frame arrivals valid (subst (λ l. IsDeliveryOf plan 32767 (Some plan.seq) first_frame arrivals l) (sym all) followed)
      ]
  headline_by word.Input ends = absurd (never_ends brought of.answers of.rest ends.0.0 of.next ends.0.1)
  headline_by word.Paths ends = absurd ends

  pub headline : ReportsDelivery plan (air_rules plan window) number first_frame (map OfSchedule pairs) of.answers r.text r.clean
  headline = headline_by of.is.word of.is.reading.ends

pub complete : (plan : Plan) (window number : ℕ) (pairs : List (ℕ × ℕ)) (brought : List (List ℕ)) (r : Report)
    → IsSchedule plan → length brought < 4294967295 → IsReportOf (air_rules plan window) number (map Datagram brought) r
    → IsDeliveryOf plan 32767 (Some plan.seq) (pos 0) (map OfSchedule pairs) brought → ((q : ℕ) → q < frame_count plan → IsInTime plan window (pos 0) pairs q)
    → ReportsAllFrames plan (air_rules plan window) number (map OfSchedule pairs) (map Datagram brought) r.text r.clean
complete plan window number pairs brought r valid few of followed in_time =
    of.complete plan (map OfSchedule pairs) (all_answers brought) valid (would_be_read (air_rules plan window) brought refl few)
    (subst (λ l. IsDeliveryOf plan 32767 (Some plan.seq) (pos 0) (map OfSchedule pairs) l) (sym (received_all brought)) followed) (inr refl)
    (λ q within. subst (λ l. IsInTime plan window (pos 0) l q) (sym (pairs_again pairs)) (in_time q within))

-- A receiver that follows a delivery takes its datagrams for what they are, and refuses its foreign datagrams.
use Rattle.std.proofs.Common.{ℕ, ◌≡◌, ◌+◌, ◌<◌, ◌≤◌, ◌^◌, false, true, if◌then◌else◌, List, [], ◌∷◌, ◌++◌, length, take, Option, None, Some, refl, sym, ap, subst, ◌∙◌, arith}
use Rattle.std.specs.Prelude.{ℤ, pos, ◌+ℤ◌, ◌-ℤ◌, ◌*ℤ◌, ◌<ℤ◌, unwrap_or}
use Rattle.std.proofs.lemmas.Bool.{ltb-true}
use Rattle.std.proofs.lemmas.Int.{ints}
use Rattle.drm_schedule.specs.declared.plan.Plan.{Plan}
use Rattle.drm_schedule.specs.Valid.{IsSchedule}
use Rattle.drm_timeline.specs.Numbers.{frame_count}
use Rattle.dcp_collect.specs.declared.taken.Field.{Field}
use Rattle.dcp_collect.specs.declared.taken.Field.TheVariants.{Sync, Af, Pft, Large, Far}
use Rattle.dcp_collect.specs.declared.taken.Taken.{Taken}
use Rattle.dcp_collect.specs.declared.taken.Taken.TheVariants.{Refused}
use Rattle.dcp_collect.specs.Reading.{Unread, Brings}
use Rattle.dcp_collect.specs.CollectorState.{CollectorState, nearest, is_above, is_far, number_of, answer, answer_within, ready}
use Rattle.dcp_collect.specs.Runs.{CollectorItem as Collected, CollectorTakes, CollectorGives}
use Rattle.law_collect.specs.Delivery.{number, newer_number, IsWithinSpan, IsFirstPacket}
use Rattle.law_collect.specs.Laws.{HasCause}
use Rattle.law_collect.proofs.Brought.{brought}
use Rattle.law_collect.proofs.Following.{Follows, follows_pair}
use Rattle.law_collect.proofs.Numbers.{nearest_is}
use Rattle.law_collect.proofs.OneReading.{one_reading}
use Rattle.law_collect.proofs.Refusals.{after_refused}
use Rattle.law_collect.proofs.Runs.{gives_given}
use Rattle.law_collect.proofs.Sent.{BringsPair}
use Rattle.law_delivery.specs.Sent.{Arrival, OfSchedule, Foreign, IsSent, IsForeign, IsFar, IsFarIfSo, AreFar, pairs_in}
use Rattle.law_delivery.proofs.Packets.{some_packets, all_sent, delivered}

-- ---- a datagram of the schedule

pub brings_of : (plan : Plan) (pair : ℕ × ℕ) (datagram : List ℕ) → IsSchedule plan → IsSent plan pair datagram → (packets : List (List ℕ)) × BringsPair plan.carry plan.seq packets pair datagram
brings_of plan pair datagram is sent =
    let (packets, are) = some_packets plan (pair ∷ []) (datagram ∷ []) (sent, tt) in
    let one = (delivered plan is (pair ∷ []) packets are (datagram ∷ []) (sent, tt)).0 in
    (packets, brought plan.carry plan.seq packets (all_sent plan is (pair ∷ []) packets are) pair datagram one)

-- ---- a datagram that is far

above_newest : (m : Option ℕ) (reach n : ℕ) → is_above m reach n ≡ true → unwrap_or m 0 < n + 1
above_newest None reach n e = absurd (let x : false ≡ true = e in cc)
above_newest (Some m) reach n e = let l = ltb-true (m + reach) n e in omega (arith, l)

module _ (sequence0 window reach : ℕ) (first_frame : ℤ) (newest : Option ℕ) (rest : List (ℕ × ℕ)) (c : CollectorState) (datagram : List ℕ)
    (f : Follows sequence0 window reach first_frame newest rest c) (far : IsFar reach sequence0 first_frame newest datagram) where
  number_by_first : (o : Option ℕ) → c.first ≡ o → number_of c far.incoming ≡ pos far.at
  number_by_first None e =
      let none : newest ≡ None = sym f.newest_is ∙ f.fresh e in
      absurd (let x : false ≡ true = subst (λ m. is_above m reach far.at ≡ true) none far.above in cc)
  number_by_first (Some first) e =
      let is_first = subst (λ o. IsFirstPacket sequence0 o rest first_frame) e f.is_first in
      let below = subst (λ m. far.at < unwrap_or m 0 + 32768) (sym f.newest_is) far.below in
      let above = subst (λ m. unwrap_or m 0 < far.at + 1) (sym f.newest_is) (above_newest newest reach far.at far.above) in
      let same = is_first.1 in
      let has_sequence = far.has_sequence in
      ap (λ o. nearest (unwrap_or o far.incoming.sequence) (unwrap_or c.newest 0) far.incoming.sequence) e
      ∙ nearest_is first (unwrap_or c.newest 0) far.incoming.sequence (pos far.at) (far.turns -ℤ is_first.0)
      (omega (arith, ints, same, has_sequence)) (omega (arith, ints, below)) (omega (arith, ints, above))

  pub far_there : is_far c (number_of c far.incoming) ≡ true
  far_there =
      subst (λ z. is_far c z ≡ true) (sym (number_by_first c.first refl))
      (subst (λ m. is_above m c.reach far.at ≡ true) (sym f.newest_is)
      (subst (λ r. is_above newest r far.at ≡ true) (sym f.reach_is) far.above))

  far_answer : answer c (Brings far.incoming) ≡ Refused Far
  far_answer = ap (λ b. if b then Refused Far else answer_within c (number_of c far.incoming) far.incoming.head) far_there

  pub far_takes : CollectorTakes c datagram (Refused Far) c
  far_takes = record {
    read = Brings far.incoming;
    is_read = far.is_read;
    taken_is = sym far_answer;
    after_is = sym (after_refused c (Brings far.incoming) Far far_answer);
  }

-- ---- where a receiver stands

-- It follows the delivery that these arrivals and then the later pairs go on with.
pub record Stands (plan : Plan) (window reach : ℕ) (first_frame : ℤ) (newest : Option ℕ) (arrivals : List Arrival) (later : List (ℕ × ℕ)) (datagrams : List (List ℕ)) (c : CollectorState) : Type 0 where
  pub follows : Follows plan.seq window reach first_frame newest (pairs_in arrivals ++ later) c
  pub span : IsWithinSpan reach first_frame newest (pairs_in arrivals ++ later)
  pub low : 1 ≤ length (pairs_in arrivals ++ later) → pos 0 <ℤ (first_frame +ℤ pos 32768)
  pub far : AreFar reach plan.seq first_frame newest arrivals datagrams
  pub idle : ready c ≡ false

pub low_of : (reach : ℕ) (first_frame : ℤ) (pairs : List (ℕ × ℕ)) → IsWithinSpan reach first_frame None pairs → 1 ≤ length pairs → pos 0 <ℤ (first_frame +ℤ pos 32768)
low_of reach first_frame [] span some = absurd (omega (arith, some))
low_of reach first_frame (pair ∷ pairs) span some = let p = span.0 in omega (arith, ints, p)

module _ (plan : Plan) (is : IsSchedule plan) (window reach : ℕ) (first_frame : ℤ) (newest : Option ℕ) (c : CollectorState) (arrivals : List Arrival) (later : List (ℕ × ℕ)) (datagram : List ℕ) (datagrams : List (List ℕ)) where
  -- behind a datagram of the schedule
  pub stands_pair : (pair : ℕ × ℕ) (kept mid : CollectorState) (a : Taken) (now : List Collected)
      → Stands plan window reach first_frame newest (OfSchedule pair ∷ arrivals) later (datagram ∷ datagrams) c → IsSent plan pair datagram
      → CollectorTakes c datagram a kept → CollectorGives kept now mid → Stands plan window reach first_frame (newer_number newest (number first_frame pair)) arrivals later datagrams mid
  stands_pair pair kept mid a now s sent takes gives =
      let (packets, brings) = brings_of plan pair datagram is sent in
      let within = sent.within in
      let few = is.in_lines.few_frames in
      let low = s.low (omega arith) in
      let small : number first_frame pair <ℤ pos (2 ^ 62) = omega (arith, ints, within, few, low) in
      record {
        follows = follows_pair one_reading plan.carry plan.seq window reach packets first_frame newest c kept mid pair (pairs_in arrivals ++ later) datagram a now s.follows s.span small brings takes gives;
        span = s.span.3;
        low = λ some. low;
        far = s.far;
        idle = (gives_given now kept mid gives).1;
      }

  -- behind a foreign datagram
  pub stands_foreign : (cause : Field) → Stands plan window reach first_frame newest (Foreign cause ∷ arrivals) later (datagram ∷ datagrams) c → Stands plan window reach first_frame newest arrivals later datagrams c
  stands_foreign cause s = record { follows = s.follows; span = s.span; low = s.low; far = s.far.1; idle = s.idle }

  -- a foreign datagram has its cause
  pub foreign_cause : (cause : Field) → Stands plan window reach first_frame newest (Foreign cause ∷ arrivals) later (datagram ∷ datagrams) c → IsForeign cause datagram → HasCause c cause datagram
  foreign_cause Sync s foreign = foreign
  foreign_cause (Af fault) s foreign = foreign
  foreign_cause (Pft fault) s foreign = foreign
  foreign_cause Large s foreign = foreign
  foreign_cause Far s foreign =
      let far : IsFar reach plan.seq first_frame newest datagram = s.far.0 in
      (far.incoming, far.is_read, far_there plan.seq window reach first_frame newest (pairs_in arrivals ++ later) c datagram s.follows far)

  -- and is refused for it
  pub foreign_takes : (cause : Field) → Stands plan window reach first_frame newest (Foreign cause ∷ arrivals) later (datagram ∷ datagrams) c → IsForeign cause datagram → CollectorTakes c datagram (Refused cause) c
  foreign_takes Sync s foreign = record { read = Unread Sync; is_read = foreign; taken_is = refl; after_is = refl }
  foreign_takes (Af fault) s foreign = record { read = Unread (Af fault); is_read = foreign; taken_is = refl; after_is = refl }
  foreign_takes (Pft fault) s foreign = record { read = Unread (Pft fault); is_read = foreign; taken_is = refl; after_is = refl }
  foreign_takes Large s foreign = record { read = Unread Large; is_read = foreign; taken_is = refl; after_is = refl }
  foreign_takes Far s foreign = far_takes plan.seq window reach first_frame newest (pairs_in arrivals ++ later) c datagram s.follows s.far.0

-- ---- a front

pub far_front : (reach sequence0 : ℕ) (first_frame : ℤ) (newest : Option ℕ) (arrivals : List Arrival) (ds later : List (List ℕ))
    → AreFar reach sequence0 first_frame newest arrivals (ds ++ later) → AreFar reach sequence0 first_frame newest (take (length ds) arrivals) ds
far_front reach sequence0 first_frame newest arrivals [] later far = tt
far_front reach sequence0 first_frame newest [] (d ∷ ds) later far = tt
far_front reach sequence0 first_frame newest (OfSchedule pair ∷ arrivals) (d ∷ ds) later far =
    far_front reach sequence0 first_frame (newer_number newest (number first_frame pair)) arrivals ds later far
far_front reach sequence0 first_frame newest (Foreign cause ∷ arrivals) (d ∷ ds) later far = (far.0, far_front reach sequence0 first_frame newest arrivals ds later far.1)

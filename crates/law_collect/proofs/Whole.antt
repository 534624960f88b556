-- Whole runs: from the calls of a collector to the items of a delivery.
use Rattle.std.proofs.Common.{ℕ, zero, suc, ◌≡◌, ◌+◌, ◌<◌, ◌≤◌, false, List, [], ◌∷◌, ◌++◌, length, Option, Some, None, inr, refl, sym, ap, ◌∙◌, subst, append_assoc, arith}
use Rattle.std.specs.Prelude.{ℤ, pos, negsuc, ◌+ℤ◌, ◌<ℤ◌, ◌≤ℤ◌, slice_get, IfSome}
use Rattle.std.specs.List.{AllByRecursion, AllZip}
use Rattle.std.proofs.lemmas.Int.{ints}
use Rattle.std.proofs.lemmas.List.{append-nil}
use Rattle.std.proofs.lemmas.List.FromFn.{take-map-range_with_len}
use Rattle.std.proofs.lemmas.Option.{slice_get_within}
use Rattle.dcp_pft.specs.Loss.{size}
use Rattle.dcp_collect.specs.declared.taken.Taken.{Taken}
use Rattle.dcp_collect.specs.declared.taken.Taken.TheVariants.{Kept}
use Rattle.dcp_collect.specs.Reading.{Incoming, Brings}
use Rattle.dcp_collect.specs.CollectorState.{CollectorState, made, is_far, number_of, answer, answer_at, after_answer, after_take, after_finish}
use Rattle.dcp_collect.specs.Numbers.{end_of}
use Rattle.dcp_collect.specs.Runs.{CollectorItem, CollectorTakes, CollectorGives, CollectorSteps, CollectorRun, up_to}
use Rattle.dcp_pft.specs.declared.carry.Carry.{Carry}
use Rattle.law_collect.specs.Delivery.{packet_at, number, newest_of, item, items, IsWithinSpan, IsFirstPacket}
use Rattle.law_collect.specs.Laws.{OneReading, IsTakenWell}
use Rattle.law_collect.proofs.Sent.{datagrams_of, head_of, IsPayload, IsCut, BringsPair}
use Rattle.law_collect.proofs.Got.{newest_last}
use Rattle.law_collect.proofs.Stays.{next_stays, end_stays, below_after, fresh_after}
use Rattle.law_collect.proofs.After.{IsAfter}
use Rattle.law_collect.proofs.Take.{before_all, take_pos}
use Rattle.law_collect.proofs.Going.{first_items, IsOpen, gives_during, gives_to_end}
use Rattle.law_collect.proofs.FirstPackets.{kept_first, nothing_kept, first_packet_after, number_is, near_is}
use Rattle.law_collect.proofs.Runs.{gives_reach, takes_reach}

-- each packet is cut as it is to be
abbrev AreCut : Carry → List (List ℕ) → Type 0
AreCut carry packets = (p : ℕ) (packet : List ℕ) → slice_get packets p ≡ Some packet → IsCut carry packet

cut_at : (carry : Carry) (packets : List (List ℕ)) (z : ℤ) (packet : List ℕ) → AreCut carry packets
    → packet_at packets z ≡ Some packet → IsCut carry packet
cut_at carry packets (pos p) packet cuts e = cuts p packet e
cut_at carry packets (negsuc p) packet cuts e = absurd (let x : None ≡ Some packet = e in cc)

module _ (carry : Carry) (packets : List (List ℕ)) (sequence0 window reach : ℕ) (first_packet : ℤ) (some : 1 ≤ window)
    (few : length packets ≤ 3000000) (cuts : AreCut carry packets) (low : pos 0 <ℤ (first_packet +ℤ pos 32768)) where
  taken : (c : CollectorState) (pairs : List (ℕ × ℕ)) (pair : ℕ × ℕ) (incoming : Incoming) (packet : List ℕ) → IsOpen carry packets window first_packet pairs c
      → slice_get packets pair.0 ≡ Some packet → pair.1 < datagrams_of carry packet
      → incoming.head ≡ head_of carry packet pair.1 → IsPayload carry packet pair.1 incoming.payload
      → (z : ℤ) → number first_packet pair ≡ z → is_far c z ≡ false
      → IsAfter carry packets window first_packet (pairs ++ pair ∷ []) (after_answer c z incoming (answer_at c z incoming.head)) × IsTakenWell (answer_at c z incoming.head)
  taken c pairs pair incoming packet o at in' head_is payload_is (negsuc n) e near = (before_all carry packets window first_packet pairs c o.is_after pair n e, tt)
  taken c pairs pair incoming packet o at in' head_is payload_is (pos n) e near =
      let place : (first_packet +ℤ pos n) ≡ pos pair.0 = omega (arith, ints, e) in
      let there : packet_at packets (first_packet +ℤ pos n) ≡ Some packet = ap (packet_at packets) place ∙ at in
      let p : pair.0 < length packets = slice_get_within packets pair.0 packet at in
      take_pos carry packets window first_packet pairs c o.is_after pair incoming n packet (cuts pair.0 packet at) some o.below e there in' head_is payload_is
      (omega (arith, ints, e, low)) near

  -- where no sequence number is known yet, the datagram is kept under number 0
  first_kept : (c : CollectorState) (pairs : List (ℕ × ℕ)) (pair : ℕ × ℕ) (rest : List (ℕ × ℕ)) (incoming : Incoming) → IsOpen carry packets window first_packet pairs c
      → IsFirstPacket sequence0 c.first (pair ∷ rest) first_packet → number_of c incoming ≡ number first_packet pair
      → c.first ≡ None → (number_of c incoming ≡ pos 0) × (answer c (Brings incoming) ≡ Kept)
  first_kept c pairs pair rest incoming o b num e =
      let b0 : first_packet ≡ pos pair.0 = subst (λ x. IsFirstPacket sequence0 x (pair ∷ rest) first_packet) e b in
      let none : number_of c incoming ≡ pos 0 = num ∙ omega (arith, ints, b0) in
      let m : c.newest ≡ None = o.fresh e in
      let l : c.next ≤ end_of None None = subst (λ x. c.next ≤ end_of None x) m o.below in
      let next : c.next ≡ 0 = omega (arith, l) in
      (none, ap (λ z. answer_at c z incoming.head) none ∙ kept_first c incoming.head m next (nothing_kept carry packets first_packet c.next c.newest c.kept m o.is_after.sent))

  -- the collector after one datagram more
  step : (c : CollectorState) (pairs : List (ℕ × ℕ)) (pair : ℕ × ℕ) (rest : List (ℕ × ℕ)) (datagram : List ℕ) → IsOpen carry packets window first_packet pairs c
      → (brings : BringsPair carry sequence0 packets pair datagram) → IsFirstPacket sequence0 c.first (pair ∷ rest) first_packet → c.reach ≡ reach
      → IsWithinSpan reach first_packet (newest_of first_packet None pairs) (pair ∷ rest)
      → IsOpen carry packets window first_packet (pairs ++ pair ∷ []) (after_take c (Brings brings.incoming))
      × IsTakenWell (answer c (Brings brings.incoming))
      × IsFirstPacket sequence0 (after_take c (Brings brings.incoming)).first rest first_packet
      × ((after_take c (Brings brings.incoming)).next ≡ c.next)
  step c pairs pair rest datagram o brings b r span =
      let v = brings.incoming in
      let num : number_of c v ≡ number first_packet pair = number_is carry packets sequence0 window reach first_packet c pairs pair rest v o.is_after b span brings.sequence in
      let near : is_far c (number_of c v) ≡ false
      = subst (λ z. is_far c z ≡ false) (sym num)
      (near_is c (number first_packet pair) reach r (subst (λ m. IfSome m (λ n. number first_packet pair ≤ℤ pos (n + reach))) (sym o.is_after.newest_is) span.2)) in
      let t = taken c pairs pair v brings.packet o brings.at brings.within brings.head brings.payload (number_of c v) (sym num) near in (
        record {
          is_after = t.0;
          no_end = end_stays c (number_of c v) v (answer c (Brings v)) ∙ o.no_end;
          below = below_after c (number_of c v) v (answer c (Brings v)) o.below;
          fresh = fresh_after c (number_of c v) v (answer c (Brings v)) o.fresh;
        },
        t.1,
        first_packet_after sequence0 c v pair rest first_packet (number_of c v) (answer c (Brings v)) c.first refl b brings.sequence (first_kept c pairs pair rest v o b num),
        next_stays c (number_of c v) v (answer c (Brings v)),
      )

  module _ (one_reading : OneReading) where
    -- however it was read
    step_by : (c d : CollectorState) (a : Taken) (pairs : List (ℕ × ℕ)) (pair : ℕ × ℕ) (rest : List (ℕ × ℕ)) (datagram : List ℕ) → CollectorTakes c datagram a d
        → IsOpen carry packets window first_packet pairs c → BringsPair carry sequence0 packets pair datagram
        → IsFirstPacket sequence0 c.first (pair ∷ rest) first_packet → c.reach ≡ reach → IsWithinSpan reach first_packet (newest_of first_packet None pairs) (pair ∷ rest)
        → IsOpen carry packets window first_packet (pairs ++ pair ∷ []) d × IsTakenWell a × IsFirstPacket sequence0 d.first rest first_packet × (d.next ≡ c.next)
    step_by c d a pairs pair rest datagram takes o brings b r span =
        let e : takes.read ≡ Brings brings.incoming = one_reading datagram (Brings brings.incoming) takes.read brings.is_read takes.is_read in
        let now : d ≡ after_take c (Brings brings.incoming) = takes.after_is ∙ ap (after_take c) e in
        let answer_is : a ≡ answer c (Brings brings.incoming) = takes.taken_is ∙ ap (answer c) e in
        let s = step c pairs pair rest datagram o brings b r span in
        subst (λ x. IsOpen carry packets window first_packet (pairs ++ pair ∷ []) x × IsTakenWell a × IsFirstPacket sequence0 x.first rest first_packet × (x.next ≡ c.next)) (sym now)
        (s.0, subst IsTakenWell (sym answer_is) s.1, s.2, s.3)

    steps_are : (rest pairs all : List (ℕ × ℕ)) (datagrams : List (List ℕ)) (c d : CollectorState) (answers : List Taken) (given : List CollectorItem)
        → pairs ++ rest ≡ all → IsOpen carry packets window first_packet pairs c → AllZip (BringsPair carry sequence0 packets) rest datagrams
        → IsFirstPacket sequence0 c.first rest first_packet → c.reach ≡ reach → IsWithinSpan reach first_packet (newest_of first_packet None pairs) rest → CollectorSteps c datagrams answers given d
        → IsOpen carry packets window first_packet all d × AllByRecursion IsTakenWell answers
        × (first_items (item carry packets window first_packet all) c.next ++ given ≡ first_items (item carry packets window first_packet all) d.next)
    steps_are [] pairs all [] c d [] given e o z b r span run =
        let same : pairs ≡ all = sym (append-nil pairs) ∙ e in (
          subst (λ x. IsOpen carry packets window first_packet x d) same (subst (λ x. IsOpen carry packets window first_packet pairs x) (sym run.1) o),
          tt,
          ap (λ x. first_items (item carry packets window first_packet all) c.next ++ x) run.0
              ∙ append-nil (first_items (item carry packets window first_packet all) c.next)
              ∙ ap (λ x. first_items (item carry packets window first_packet all) x.next) (sym run.1),
        )
    steps_are [] pairs all [] c d (a ∷ answers) given e o z b r span run = absurd run
    steps_are [] pairs all (datagram ∷ datagrams) c d answers given e o z b r span run = absurd z
    steps_are (pair ∷ rest) pairs all [] c d answers given e o z b r span run = absurd z
    steps_are (pair ∷ rest) pairs all (datagram ∷ datagrams) c d [] given e o z b r span run = absurd run
    steps_are (pair ∷ rest) pairs all (datagram ∷ datagrams) c d (a ∷ answers) given e o z b r span (now, later, kept, mid, takes, gives, steps, are) =
        let I : ℕ → CollectorItem = item carry packets window first_packet all in
        let st = step_by c kept a pairs pair rest datagram takes o z.0 b r span in
        let during = gives_during carry packets window first_packet (λ q packet at. cut_at carry packets (first_packet +ℤ pos q) packet cuts at) (pairs ++ pair ∷ []) rest now kept mid st.0 gives in
        let joined : (pairs ++ pair ∷ []) ++ rest ≡ all = append_assoc pairs (pair ∷ []) rest ∙ e in
        let more = steps_are rest (pairs ++ pair ∷ []) all datagrams mid d answers later joined during.0 z.1
        (subst (λ f. IsFirstPacket sequence0 f rest first_packet) (sym during.1) st.2)
        (gives_reach now kept mid gives ∙ (takes_reach c kept datagram a takes ∙ r))
        (subst (λ m. IsWithinSpan reach first_packet m rest) (sym (newest_last first_packet None pairs pair)) span.3) steps in
        let given_now : first_items I c.next ++ now ≡ first_items I mid.next
        = subst (λ n. first_items I n ++ now ≡ first_items I mid.next) st.3
        (subst (λ xs. first_items (item carry packets window first_packet xs) kept.next ++ now ≡ first_items (item carry packets window first_packet xs) mid.next) joined during.2) in (
          more.0,
          (st.1, more.1),
          ap (λ x. first_items I c.next ++ x) are ∙ sym (append_assoc (first_items I c.next) now later) ∙ ap (λ x. x ++ later) given_now ∙ more.2,
        )

size_none : (n : ℕ) → size n (λ i. false) ≡ 0
unfolding size
size_none zero = refl
size_none (suc n) = omega (arith, size_none n)

open_made : (carry : Carry) (packets : List (List ℕ)) (window reach : ℕ) (first_packet : ℤ) (first : Option ℕ) → IsOpen carry packets window first_packet [] (made window reach first)
open_made carry packets window reach first_packet first = record {
  is_after = record {
    window_is = refl;
    newest_is = refl;
    sent = tt;
    ordered = tt;
    held = λ q i l t. t;
    complete = λ q l. inr (λ i t. t);
    counted = λ q packet l at. sym (size_none (datagrams_of carry packet));
  };
  no_end = refl;
  below = omega arith;
  fresh = λ e. refl;
}

finish_after : (carry : Carry) (packets : List (List ℕ)) (window : ℕ) (first_packet : ℤ) (pairs : List (ℕ × ℕ)) (c : CollectorState) (frame_limit : Option ℕ)
    → IsAfter carry packets window first_packet pairs c → IsAfter carry packets window first_packet pairs (after_finish c frame_limit)
finish_after carry packets window first_packet pairs c frame_limit h =
    record { window_is = h.window_is; newest_is = h.newest_is; sent = h.sent; ordered = h.ordered; held = h.held; complete = h.complete; counted = h.counted }

up_to_is : (I : ℕ → CollectorItem) (frame_limit newest : Option ℕ) (m : ℕ) → end_of frame_limit newest ≤ m → (frame_limit ≡ None → m ≡ end_of frame_limit newest)
    → up_to frame_limit (first_items I m) ≡ first_items I (end_of frame_limit newest)
up_to_is I None newest m l e = ap (first_items I) (e refl)
up_to_is I (Some n) newest m l e = take-map-range_with_len I 0 m n l

-- the end of a run
ended : (carry : Carry) (packets : List (List ℕ)) (window : ℕ) (frame_limit : Option ℕ) (first_packet : ℤ) (cuts : AreCut carry packets)
    (pairs : List (ℕ × ℕ)) (before rest given : List CollectorItem) (mid after : CollectorState)
    → IsOpen carry packets window first_packet pairs mid → before ≡ first_items (item carry packets window first_packet pairs) mid.next
    → CollectorGives (after_finish mid frame_limit) rest after → given ≡ up_to frame_limit (before ++ rest) → given ≡ items carry packets window first_packet frame_limit pairs
ended carry packets window frame_limit first_packet cuts pairs before rest given mid after o before_is g e =
    let last = gives_to_end carry packets window first_packet (λ q packet at. cut_at carry packets (first_packet +ℤ pos q) packet cuts at) pairs (end_of frame_limit mid.newest) rest (after_finish mid frame_limit) after
    (finish_after carry packets window first_packet pairs mid frame_limit o.is_after) refl g in
    let all : before ++ rest ≡ first_items (item carry packets window first_packet pairs) last.0 = ap (λ x. x ++ rest) before_is ∙ last.3 in
    e ∙ ap (up_to frame_limit) all
    ∙ up_to_is (item carry packets window first_packet pairs) frame_limit mid.newest last.0 last.1
    (λ t. last.2 (subst (λ x. mid.next ≤ end_of x mid.newest) (sym t) o.below))
    ∙ ap (λ m. first_items (item carry packets window first_packet pairs) (end_of frame_limit m)) o.is_after.newest_is

-- Every run over the datagrams of a delivery gives its items, and finds no datagram refused or inconsistent.
pub collecting_by : (one_reading : OneReading) (carry : Carry) (sequence0 window reach : ℕ) (packets : List (List ℕ)) (first frame_limit : Option ℕ) (first_packet : ℤ)
    (pairs : List (ℕ × ℕ)) (datagrams : List (List ℕ)) (answers : List Taken) (given : List CollectorItem)
    → 1 ≤ window → length packets ≤ 3000000
    → ((p : ℕ) (packet : List ℕ) → slice_get packets p ≡ Some packet → IsCut carry packet)
    → AllZip (BringsPair carry sequence0 packets) pairs datagrams → IsFirstPacket sequence0 first pairs first_packet → IsWithinSpan reach first_packet None pairs
    → CollectorRun window reach first frame_limit datagrams answers given
    → (given ≡ items carry packets window first_packet frame_limit pairs) × AllByRecursion IsTakenWell answers
collecting_by one_reading carry sequence0 window reach packets first frame_limit first_packet [] [] [] given some few cuts z b span run = (
  ended carry packets window frame_limit first_packet cuts [] run.during run.rest given run.mid run.after
      (subst (λ c. IsOpen carry packets window first_packet [] c) (sym run.steps.1) (open_made carry packets window reach first_packet first))
      (run.steps.0 ∙ ap (λ c. first_items (item carry packets window first_packet []) c.next) (sym run.steps.1)) run.gives run.are,
  tt,
)
collecting_by one_reading carry sequence0 window reach packets first frame_limit first_packet [] [] (a ∷ answers) given some few cuts z b span run = absurd run.steps
collecting_by one_reading carry sequence0 window reach packets first frame_limit first_packet [] (datagram ∷ datagrams) answers given some few cuts z b span run = absurd z
collecting_by one_reading carry sequence0 window reach packets first frame_limit first_packet (pair ∷ pairs) datagrams answers given some few cuts z b span run =
    let p = span.0 in
    let low : pos 0 <ℤ (first_packet +ℤ pos 32768) = omega (arith, ints, p) in
    let st = steps_are carry packets sequence0 window reach first_packet some few cuts low one_reading (pair ∷ pairs) [] (pair ∷ pairs) datagrams (made window reach first) run.mid answers run.during refl
    (open_made carry packets window reach first_packet first) z b refl span run.steps in
    (ended carry packets window frame_limit first_packet cuts (pair ∷ pairs) run.during run.rest given run.mid run.after st.0 st.2 run.gives run.are, st.1)

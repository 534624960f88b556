-- A collector follows a delivery: by the datagrams so far it has the delivery's newest number, and counts from its base.
use Rattle.std.proofs.Common.{ℕ, ◌≡◌, ◌^◌, ◌<◌, ◌≤◌, ◌+◌, Bool, true, false, cond, ◌||◌, not, leb, ltb, eqb, List, [], ◌∷◌, Option, Some, None, ◌⊎◌, inl, inr, ⊎_elim, refl, sym, ap, ◌∙◌, subst, arith}
use Rattle.std.specs.Prelude.{ℤ, pos, negsuc, ◌<ℤ◌, ◌≤ℤ◌, IfSome}
use Rattle.std.specs.List.{AllByRecursion, find}
use Rattle.std.proofs.lemmas.Bool.{eq-eqb, leb-true, ltb-true, or_cases, or_left}
use Rattle.std.proofs.lemmas.Int.{ints}
use Rattle.dcp_collect.specs.declared.taken.Taken.{Taken}
use Rattle.dcp_collect.specs.declared.taken.Taken.TheVariants.{Kept, Repeated, Late}
use Rattle.dcp_collect.specs.Fragments.{NumberedFragment, agree, has_index, suffice, of_packet}
use Rattle.dcp_collect.specs.Reading.{Incoming, Brings}
use Rattle.dcp_collect.specs.CollectorState.{CollectorState, made, is_far, reached, is_late, number_of, answer, answer_by, answer_within, answer_at, after_answer, after_take, after_item}
use Rattle.dcp_collect.specs.Numbers.{newer, end_of}
use Rattle.dcp_collect.specs.Runs.{CollectorItem, CollectorTakes, CollectorGives}
use Rattle.dcp_collect.proofs.Answering.{not_far}
use Rattle.dcp_collect.proofs.Lists.{all_filter}
use Rattle.dcp_pft.specs.declared.carry.Carry.{Carry}
use Rattle.law_collect.specs.Delivery.{sequence_at, number, newer_number, IsWithinSpan, IsFirstPacket}
use Rattle.law_collect.specs.Laws.{OneReading}
use Rattle.law_collect.proofs.Sent.{BringsPair}
use Rattle.law_collect.proofs.Reached.{newer_same, reached_less, below_end, numbered}
use Rattle.law_collect.proofs.Stays.{reach_stays, fresh_after}
use Rattle.law_collect.proofs.AtOnce.{IsReached, reached_take, reached_gives, reached_new, gives_newest}
use Rattle.law_collect.proofs.FirstPackets.{kept_first, first_packet_after, number_by, near_is}
use Rattle.law_collect.proofs.Runs.{gives_reach}

-- ---- the newest number after one datagram more

found_index : (p : NumberedFragment → Bool) (fs : List NumberedFragment) (f : NumberedFragment) → find p fs ≡ Some f → (i : ℕ) × (has_index fs i ≡ true)
found_index p [] f e = absurd (let x : None ≡ Some f = e in cc)
found_index p (g ∷ gs) f e =
    (g.head.index, or_left (eqb g.head.index g.head.index) (has_index gs g.head.index) (eq-eqb g.head.index g.head.index refl))

module _ (c : CollectorState) (window : ℕ) (h : IsReached window c) (incoming : Incoming) (n : ℕ) (small : n < 2 ^ 62) where
  late_reached : is_late c n ≡ true → reached c.newest n ≡ true
  late_reached l =
      ⊎_elim (λ r. reached_less c.newest n c.window r)
      (λ r. ⊎_elim
      (λ g. let less : n < c.next = ltb-true n c.next g in (let below = h.below in below_end c.newest n c.next less below))
      (λ g. let less : 2 ^ 62 ≤ n = leb-true (2 ^ 62) n g in absurd (omega (arith, less, small)))
      (or_cases (ltb n c.next) (leb (2 ^ 62) n) r))
      (or_cases (reached c.newest (n + c.window)) (ltb n c.next || leb (2 ^ 62) n) l)

  -- something is kept of its packet
  known : (suffice (of_packet n c.kept) ≡ true) ⊎ ((i : ℕ) × (has_index (of_packet n c.kept) i ≡ true)) → reached c.newest n ≡ true
  known some =
      numbered (λ f. reached c.newest f.number ≡ true) c.newest n (of_packet n c.kept) (λ f k. k)
      (all_filter (λ f. reached c.newest f.number ≡ true) (λ f. eqb f.number n) c.kept h.kept) some

  newest_by : (late done again : Bool) (odd : Option NumberedFragment)
      → late ≡ is_late c n → done ≡ suffice (of_packet n c.kept)
      → odd ≡ find (λ f. not (agree f.head incoming.head)) (of_packet n c.kept) → again ≡ has_index (of_packet n c.kept) incoming.head.index
      → (after_answer c (pos n) incoming (cond late Late (cond done Repeated (answer_by odd again incoming.head)))).newest ≡ newer c.newest n
  newest_by true done again odd l d o a = sym (newer_same c.newest n (late_reached (sym l)))
  newest_by false true again odd l d o a = sym (newer_same c.newest n (known (inl (sym d))))
  newest_by false false again (Some f) l d o a =
      sym (newer_same c.newest n (known (inr (found_index (λ f. not (agree f.head incoming.head)) (of_packet n c.kept) f (sym o)))))
  newest_by false false true None l d o a = sym (newer_same c.newest n (known (inr (incoming.head.index, sym a))))
  newest_by false false false None l d o a = refl

-- where it isn't far, the newest number becomes the greater of both, whatever is answered
newest_after : (c : CollectorState) (window : ℕ) (n : ℤ) (incoming : Incoming) → IsReached window c → is_far c n ≡ false → n <ℤ pos (2 ^ 62)
    → (after_answer c n incoming (answer_at c n incoming.head)).newest ≡ newer_number c.newest n
newest_after c window (negsuc n) incoming h near small = refl
newest_after c window (pos n) incoming h near small =
    subst (λ a. (after_answer c (pos n) incoming a).newest ≡ newer c.newest n) (sym (not_far c (pos n) incoming.head near))
    (newest_by c window h incoming n (omega (arith, ints, small)) (is_late c n) (suffice (of_packet n c.kept)) (has_index (of_packet n c.kept) incoming.head.index)
    (find (λ f. not (agree f.head incoming.head)) (of_packet n c.kept)) refl refl refl refl)

-- ---- the collector where a delivery has come so far

pub record Follows (sequence0 window reach : ℕ) (first_packet : ℤ) (newest : Option ℕ) (rest : List (ℕ × ℕ)) (c : CollectorState) : Type 0 where
  pub is_reached : IsReached window c
  pub reach_is : c.reach ≡ reach
  pub newest_is : c.newest ≡ newest
  pub is_first : IsFirstPacket sequence0 c.first rest first_packet
  pub fresh : c.first ≡ None → c.newest ≡ None

pub follows_new : (sequence0 window reach : ℕ) (first_packet : ℤ) (first : Option ℕ) (pairs : List (ℕ × ℕ)) → IsFirstPacket sequence0 first pairs first_packet
    → Follows sequence0 window reach first_packet None pairs (made window reach first)
follows_new sequence0 window reach first_packet first pairs is_first =
    record { is_reached = reached_new window reach first; reach_is = refl; newest_is = refl; is_first = is_first; fresh = λ e. refl }

nothing_reached : (m : Option ℕ) (fs : List NumberedFragment) → m ≡ None → AllByRecursion (λ f. reached m f.number ≡ true) fs → fs ≡ []
nothing_reached m [] e all = refl
nothing_reached m (f ∷ fs) e all = absurd (let x : false ≡ true = subst (λ o. reached o f.number ≡ true) e all.0 in cc)

gives_first : (items : List CollectorItem) (c d : CollectorState) → CollectorGives c items d → d.first ≡ c.first
gives_first [] c d g = ap (λ s. s.first) g.1
gives_first (item ∷ items) c d g = gives_first items (after_item c) d g.2

module _ (sequence0 window reach : ℕ) (first_packet : ℤ) (newest : Option ℕ) (c : CollectorState) (pair : ℕ × ℕ) (rest : List (ℕ × ℕ)) (incoming : Incoming)
    (f : Follows sequence0 window reach first_packet newest (pair ∷ rest) c) (span : IsWithinSpan reach first_packet newest (pair ∷ rest))
    (small : number first_packet pair <ℤ pos (2 ^ 62)) (sequence : incoming.sequence ≡ sequence_at sequence0 pair.0) where
  its_number : number_of c incoming ≡ number first_packet pair
  its_number = number_by sequence0 reach first_packet newest c pair rest incoming f.newest_is f.is_first span sequence

  its_near : is_far c (number_of c incoming) ≡ false
  its_near =
      subst (λ z. is_far c z ≡ false) (sym its_number)
      (near_is c (number first_packet pair) reach f.reach_is (subst (λ m. IfSome m (λ n. number first_packet pair ≤ℤ pos (n + reach))) (sym f.newest_is) span.2))

  -- where no sequence number is known yet, the datagram is kept under number 0
  first_kept : c.first ≡ None → (number_of c incoming ≡ pos 0) × (answer c (Brings incoming) ≡ Kept)
  first_kept e =
      let first_is : first_packet ≡ pos pair.0 = subst (λ x. IsFirstPacket sequence0 x (pair ∷ rest) first_packet) e f.is_first in
      let none : number_of c incoming ≡ pos 0 = its_number ∙ omega (arith, ints, first_is) in
      let m : c.newest ≡ None = f.fresh e in
      let l : c.next ≤ end_of None None = subst (λ x. c.next ≤ end_of None x) m f.is_reached.below in
      let next : c.next ≡ 0 = omega (arith, l) in
      (none, ap (λ z. answer_at c z incoming.head) none ∙ kept_first c incoming.head m next (nothing_reached c.newest c.kept m f.is_reached.kept))

  after_pair : Follows sequence0 window reach first_packet (newer_number newest (number first_packet pair)) rest (after_take c (Brings incoming))
  after_pair =
      let n : ℤ = number_of c incoming in record {
        is_reached = reached_take window c (Brings incoming) f.is_reached;
        reach_is = takes_reach_of;
        newest_is = newest_after c window n incoming f.is_reached its_near (subst (λ z. z <ℤ pos (2 ^ 62)) (sym its_number) small)
            ∙ (ap (newer_number c.newest) its_number ∙ ap (λ m. newer_number m (number first_packet pair)) f.newest_is);
        is_first = first_packet_after sequence0 c incoming pair rest first_packet n (answer c (Brings incoming)) c.first refl f.is_first sequence first_kept;
        fresh = fresh_after c n incoming (answer c (Brings incoming)) f.fresh;
      }
    where
      takes_reach_of : (after_take c (Brings incoming)).reach ≡ reach
      takes_reach_of = reach_stays c (number_of c incoming) incoming (answer c (Brings incoming)) ∙ f.reach_is

follows_gives : (sequence0 window reach : ℕ) (first_packet : ℤ) (newest : Option ℕ) (rest : List (ℕ × ℕ)) (items : List CollectorItem) (c d : CollectorState)
    → Follows sequence0 window reach first_packet newest rest c → CollectorGives c items d → Follows sequence0 window reach first_packet newest rest d
follows_gives sequence0 window reach first_packet newest rest items c d f gives = record {
  is_reached = reached_gives window items c d f.is_reached gives;
  reach_is = gives_reach items c d gives ∙ f.reach_is;
  newest_is = gives_newest items c d gives ∙ f.newest_is;
  is_first = subst (λ o. IsFirstPacket sequence0 o rest first_packet) (sym (gives_first items c d gives)) f.is_first;
  fresh = λ e. gives_newest items c d gives ∙ f.fresh (sym (gives_first items c d gives) ∙ e);
}

-- after the datagram of a pair, and all that is ready then
pub follows_pair : (one_reading : OneReading) (carry : Carry) (sequence0 window reach : ℕ) (packets : List (List ℕ)) (first_packet : ℤ) (newest : Option ℕ) (c kept mid : CollectorState)
    (pair : ℕ × ℕ) (rest : List (ℕ × ℕ)) (datagram : List ℕ) (a : Taken) (now : List CollectorItem)
    → Follows sequence0 window reach first_packet newest (pair ∷ rest) c → IsWithinSpan reach first_packet newest (pair ∷ rest) → number first_packet pair <ℤ pos (2 ^ 62)
    → BringsPair carry sequence0 packets pair datagram → CollectorTakes c datagram a kept → CollectorGives kept now mid
    → Follows sequence0 window reach first_packet (newer_number newest (number first_packet pair)) rest mid
follows_pair one_reading carry sequence0 window reach packets first_packet newest c kept mid pair rest datagram a now f span small brings takes gives =
    let same : takes.read ≡ Brings brings.incoming = one_reading datagram (Brings brings.incoming) takes.read brings.is_read takes.is_read in
    let taken : kept ≡ after_take c (Brings brings.incoming) = takes.after_is ∙ ap (after_take c) same in
    follows_gives sequence0 window reach first_packet (newer_number newest (number first_packet pair)) rest now kept mid
    (subst (Follows sequence0 window reach first_packet (newer_number newest (number first_packet pair)) rest) (sym taken)
    (after_pair sequence0 window reach first_packet newest c pair rest brings.incoming f span small brings.sequence)) gives

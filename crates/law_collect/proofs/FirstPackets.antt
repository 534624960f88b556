-- The base of a delivery, and the number of each pair.
use Rattle.std.proofs.Common.{ℕ, ◌≡◌, ◌+◌, ◌/◌, false, true, List, [], ◌∷◌, Option, Some, None, refl, sym, ap, ◌∙◌, subst, arith}
use Rattle.std.specs.Prelude.{ℤ, pos, negsuc, ◌+ℤ◌, ◌-ℤ◌, ◌*ℤ◌, ◌<ℤ◌, ◌≤ℤ◌, IfSome, unwrap_or}
use Rattle.std.specs.List.{AllByRecursion}
use Rattle.std.proofs.lemmas.Bool.{le-ltb}
use Rattle.std.proofs.lemmas.Int.{ints}
use Rattle.dcp_collect.specs.declared.head.Head.{Head}
use Rattle.dcp_collect.specs.declared.taken.Taken.{Taken}
use Rattle.dcp_collect.specs.declared.taken.Taken.TheVariants.{Kept}
use Rattle.dcp_collect.specs.Fragments.{NumberedFragment}
use Rattle.dcp_collect.specs.Reading.{Incoming}
use Rattle.dcp_collect.specs.CollectorState.{CollectorState, is_above, is_far, reached, number_of, answer_at, after_answer}
use Rattle.dcp_pft.specs.declared.carry.Carry.{Carry}
use Rattle.law_collect.specs.Delivery.{sequence_at, number, newest_of, IsWithinSpan, IsFirstPacket}
use Rattle.law_collect.proofs.Numbers.{nearest_is}
use Rattle.law_collect.proofs.Stays.{first_stays}
use Rattle.law_collect.proofs.After.{IsKept, IsAfter}

-- the first datagram of a collector that was told no first sequence number is kept
pub kept_first : (c : CollectorState) (head : Head) → c.newest ≡ None → c.next ≡ 0 → c.kept ≡ [] → answer_at c (pos 0) head ≡ Kept
kept_first c head a b d = rw (a, b, d)

pub nothing_kept : (carry : Carry) (packets : List (List ℕ)) (first_packet : ℤ) (next : ℕ) (m : Option ℕ) (fs : List NumberedFragment) → m ≡ None
    → AllByRecursion (IsKept carry packets first_packet next m) fs → fs ≡ []
nothing_kept carry packets first_packet next m [] e all = refl
nothing_kept carry packets first_packet next m (f ∷ fs) e all =
    absurd (let x : false ≡ true = subst (λ o. reached o f.number ≡ true) e all.0.2 in cc)

first_number : (sequence0 : ℕ) (o : Option ℕ) (pair : ℕ × ℕ) (rest : List (ℕ × ℕ)) (first_packet : ℤ) → IsFirstPacket sequence0 o (pair ∷ rest) first_packet
    → (k : ℤ) × ((pos (unwrap_or o (sequence_at sequence0 pair.0)) +ℤ number first_packet pair) ≡ (pos (sequence_at sequence0 pair.0) +ℤ (k *ℤ pos 65536)))
first_number sequence0 None pair rest first_packet e = (pos 0, omega (arith, ints, e))
first_number sequence0 (Some f) pair rest first_packet e = (pos ((sequence0 + pair.0) / 65536) -ℤ e.0, omega (arith, ints, e.1))

-- the base stays that of the rest
pub first_packet_after : (sequence0 : ℕ) (c : CollectorState) (incoming : Incoming) (pair : ℕ × ℕ) (rest : List (ℕ × ℕ)) (first_packet n : ℤ) (a : Taken) (o : Option ℕ)
    → c.first ≡ o → IsFirstPacket sequence0 o (pair ∷ rest) first_packet → incoming.sequence ≡ sequence_at sequence0 pair.0
    → (o ≡ None → (n ≡ pos 0) × (a ≡ Kept)) → IsFirstPacket sequence0 (after_answer c n incoming a).first rest first_packet
first_packet_after sequence0 c incoming pair rest first_packet n a (Some f) e b s k =
    subst (λ x. IsFirstPacket sequence0 x rest first_packet) (sym (first_stays c n incoming a f e)) b
first_packet_after sequence0 c incoming pair rest first_packet n a None e b s k =
    let is = k refl in
    let first : (after_answer c n incoming a).first ≡ Some (sequence_at sequence0 pair.0)
    = ap (λ x. (after_answer c n incoming x).first) is.1 ∙ ap (λ z. (after_answer c z incoming Kept).first) is.0
    ∙ ap (λ x. Some (unwrap_or x incoming.sequence)) e ∙ ap Some s in
    subst (λ x. IsFirstPacket sequence0 x rest first_packet) (sym first)
    (pos ((sequence0 + pair.0) / 65536), omega (arith, ints, b))

-- within the span the collector counts as the delivery does
pub number_by : (sequence0 reach : ℕ) (first_packet : ℤ) (newest : Option ℕ) (c : CollectorState) (pair : ℕ × ℕ) (rest : List (ℕ × ℕ)) (incoming : Incoming) → c.newest ≡ newest
    → IsFirstPacket sequence0 c.first (pair ∷ rest) first_packet → IsWithinSpan reach first_packet newest (pair ∷ rest)
    → incoming.sequence ≡ sequence_at sequence0 pair.0 → number_of c incoming ≡ number first_packet pair
number_by sequence0 reach first_packet newest c pair rest incoming same b span s =
    let k = first_number sequence0 c.first pair rest first_packet b in
    let e : (pos (unwrap_or c.first incoming.sequence) +ℤ number first_packet pair) ≡ (pos incoming.sequence +ℤ (k.0 *ℤ pos 65536))
    = subst (λ x. (pos (unwrap_or c.first x) +ℤ number first_packet pair) ≡ (pos x +ℤ (k.0 *ℤ pos 65536))) (sym s) k.1 in
    nearest_is (unwrap_or c.first incoming.sequence) (unwrap_or c.newest 0) incoming.sequence (number first_packet pair) k.0 e
    (subst (λ m. number first_packet pair <ℤ (pos (unwrap_or m 0) +ℤ pos 32768)) (sym same) span.0)
    (let near : pos (unwrap_or c.newest 0) <ℤ (number first_packet pair +ℤ pos 32768) = subst (λ m. pos (unwrap_or m 0) <ℤ (number first_packet pair +ℤ pos 32768)) (sym same) span.1 in omega (arith, ints, near))

pub number_is : (carry : Carry) (packets : List (List ℕ)) (sequence0 window reach : ℕ) (first_packet : ℤ) (c : CollectorState) (pairs : List (ℕ × ℕ)) (pair : ℕ × ℕ) (rest : List (ℕ × ℕ)) (incoming : Incoming)
    → IsAfter carry packets window first_packet pairs c
    → IsFirstPacket sequence0 c.first (pair ∷ rest) first_packet → IsWithinSpan reach first_packet (newest_of first_packet None pairs) (pair ∷ rest)
    → incoming.sequence ≡ sequence_at sequence0 pair.0 → number_of c incoming ≡ number first_packet pair
number_is carry packets sequence0 window reach first_packet c pairs pair rest incoming h b span s =
    number_by sequence0 reach first_packet (newest_of first_packet None pairs) c pair rest incoming h.newest_is b span s

-- and within the reach of its newest number no datagram is far
pub near_is : (c : CollectorState) (n : ℤ) (reach : ℕ) → c.reach ≡ reach → IfSome c.newest (λ m. n ≤ℤ pos (m + reach)) → is_far c n ≡ false
near_is c (negsuc n) reach r near = refl
near_is c (pos n) reach r near = by c.newest near
  where
    by : (m : Option ℕ) → IfSome m (λ k. pos n ≤ℤ pos (k + reach)) → is_above m c.reach n ≡ false
    by None near = refl
    by (Some m) near = le-ltb (m + c.reach) n (omega (arith, ints, r, near))

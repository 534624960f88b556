-- What `next` gives is the item of the delivery, and giving it keeps what a collector is.
use Rattle.std.proofs.Common.{ℕ, ◌≡◌, ◌≢◌, ◌+◌, ◌<◌, ◌≤◌, true, false, cond, not, eqb, List, [], ◌∷◌, length, Option, Some, None, ◌⊎◌, ⊎_elim, refl, sym, ap, ◌∙◌, subst, arith}
use Rattle.std.specs.Prelude.{ℤ, pos, ◌+ℤ◌}
use Rattle.std.specs.List.{filter, AllByRecursion}
use Rattle.std.proofs.lemmas.Bool.{eqb-true, eq-eqb, ne_eqb, not-true, not_from_false, cond-true, cond-false}
use Rattle.dcp_pft.specs.Loss.{size, is_recoverable}
use Rattle.dcp_collect.specs.Fragments.{NumberedFragment, has_index, suffice, of_packet}
use Rattle.dcp_collect.specs.CollectorState.{CollectorState, after_item, count_of}
use Rattle.dcp_collect.specs.Runs.{CollectorItem, Packet, Lost, Damaged, IsItem}
use Rattle.dcp_pft.specs.declared.carry.Carry.{Carry}
use Rattle.dcp_pft.specs.Carrying.{shape_under}
use Rattle.law_collect.specs.Delivery.{packet_at, got, item, item_by}
use Rattle.law_collect.proofs.Sent.{datagrams_of, IsOf, IsCut}
use Rattle.dcp_collect.proofs.Sets.{size_same, recoverable_same, recoverable_more, same_test}
use Rattle.dcp_collect.proofs.Lists.{all_filter, all_weaker, filter_filter}
use Rattle.law_collect.proofs.Ordered.{ordered_filter, ascending}
use Rattle.law_collect.proofs.Packets.{suffice_is, count_of_is, those_of, none_of}
use Rattle.law_collect.proofs.After.{IsKept, IsAfter, sent_all}

-- the others are left
others_left : (n q : ℕ) (fs : List NumberedFragment) → n < q → of_packet q (filter (λ f. not (eqb f.number n)) fs) ≡ of_packet q fs
others_left n q fs l =
    filter_filter (λ f. eqb f.number q) (λ f. not (eqb f.number n))
    (λ f t. let e : f.number ≡ q = eqb-true f.number q t in
    not_from_false (eqb f.number n) (ne_eqb f.number n (λ d. let x : n ≡ q = sym d ∙ e in omega arith))) fs

above_next : (n m : ℕ) → n ≤ m → not (eqb m n) ≡ true → n + 1 ≤ m
above_next n m l t =
    let ne : m ≢ n = λ e. let x : true ≡ false = sym (eq-eqb m n e) ∙ not-true (eqb m n) t in cc in
    omega arith

pub item_after : (carry : Carry) (packets : List (List ℕ)) (window : ℕ) (first_packet : ℤ) (pairs : List (ℕ × ℕ)) (c : CollectorState)
    → IsAfter carry packets window first_packet pairs c → IsAfter carry packets window first_packet pairs (after_item c)
item_after carry packets window first_packet pairs c h = record {
  window_is = h.window_is;
  newest_is = h.newest_is;
  sent = all_weaker (λ f. IsKept carry packets first_packet c.next c.newest f × (not (eqb f.number c.next) ≡ true)) (IsKept carry packets first_packet (c.next + 1) c.newest)
      (λ f k. (k.0.0, above_next c.next f.number k.0.1 k.1, k.0.2)) (filter (λ f. not (eqb f.number c.next)) c.kept)
      (all_filter (IsKept carry packets first_packet c.next c.newest) (λ f. not (eqb f.number c.next)) c.kept h.sent);
  ordered = ordered_filter (λ f. not (eqb f.number c.next)) c.kept h.ordered;
  held = λ q i l t. h.held q i (omega arith) (ap (λ fs. has_index fs i) (sym (others_left c.next q c.kept (omega arith))) ∙ t);
  complete = λ q l. subst (λ fs. (suffice fs ≡ true) ⊎ ((i : ℕ) → got window first_packet pairs q i ≡ true → has_index fs i ≡ true))
      (sym (others_left c.next q c.kept (omega arith))) (h.complete q (omega arith));
  counted = λ q packet l at. subst (λ fs. length fs ≡ size (datagrams_of carry packet) (has_index fs))
      (sym (others_left c.next q c.kept (omega arith))) (h.counted q packet (omega arith) at);
}

lost_by : (q had total count : ℕ) (fs : List NumberedFragment) → had ≡ length fs → total ≡ count_of fs → (0 < length fs → count_of fs ≡ count)
    → ◌≡◌ {A = CollectorItem} (Lost q had total) (Lost q had (cond (eqb had 0) 0 count))
lost_by q had total count [] e f g = ap (λ t. Lost q had t) (f ∙ sym (cond-true (eqb had 0) 0 count (eq-eqb had 0 e)))
lost_by q had total count (x ∷ xs) e f g =
    ap (λ t. Lost q had t) (f ∙ g (omega arith) ∙ sym (cond-false (eqb had 0) 0 count (ne_eqb had 0 (λ z. omega arith))))

module _ (carry : Carry) (packets : List (List ℕ)) (window : ℕ) (first_packet : ℤ) (pairs : List (ℕ × ℕ)) (c : CollectorState)
    (cut : (q : ℕ) (packet : List ℕ) → packet_at packets (first_packet +ℤ pos q) ≡ Some packet → IsCut carry packet)
    (h : IsAfter carry packets window first_packet pairs c) (all : List (ℕ × ℕ))
    (more : (i : ℕ) → got window first_packet pairs c.next i ≡ true → got window first_packet all c.next i ≡ true)
    (same : suffice (of_packet c.next c.kept) ≡ false → (i : ℕ) → got window first_packet all c.next i ≡ got window first_packet pairs c.next i) where
  those_sent : (packet : List ℕ) → packet_at packets (first_packet +ℤ pos c.next) ≡ Some packet → AllByRecursion (IsOf carry packet) (of_packet c.next c.kept)
  those_sent packet at = those_of carry packets first_packet c.next packet at c.kept (sent_all carry packets window first_packet pairs c h)

  given_is : (packet : List ℕ) → packet_at packets (first_packet +ℤ pos c.next) ≡ Some packet → suffice (of_packet c.next c.kept) ≡ true
      → is_recoverable (shape_under carry (length packet)) (got window first_packet all c.next) ≡ true
  given_is packet at t =
      recoverable_more (shape_under carry (length packet)) (has_index (of_packet c.next c.kept)) (got window first_packet all c.next)
      (λ i k. more i (h.held c.next i (omega arith) k))
      (sym (suffice_is carry packet (cut c.next packet at) (of_packet c.next c.kept) (those_sent packet at)) ∙ t)

  got_is : suffice (of_packet c.next c.kept) ≡ false → (i : ℕ) → got window first_packet all c.next i ≡ has_index (of_packet c.next c.kept) i
  got_is f i =
      same f i ∙ same_test (got window first_packet pairs c.next i) (has_index (of_packet c.next c.kept) i)
      (⊎_elim (λ t. let x : false ≡ true = sym f ∙ t in absurd (let y = x in cc)) (λ k. k i) (h.complete c.next (omega arith)))
      (h.held c.next i (omega arith))

  lost_is : (packet : List ℕ) → packet_at packets (first_packet +ℤ pos c.next) ≡ Some packet → suffice (of_packet c.next c.kept) ≡ false
      → is_recoverable (shape_under carry (length packet)) (got window first_packet all c.next) ≡ false
  lost_is packet at f =
      recoverable_same (shape_under carry (length packet)) (got window first_packet all c.next) (has_index (of_packet c.next c.kept)) (got_is f)
      ∙ sym (suffice_is carry packet (cut c.next packet at) (of_packet c.next c.kept) (those_sent packet at)) ∙ f

  -- nothing is kept of a number without a packet
  nothing : packet_at packets (first_packet +ℤ pos c.next) ≡ None → of_packet c.next c.kept ≡ []
  nothing at = none_of carry packets first_packet c.next at c.kept (sent_all carry packets window first_packet pairs c h)

  given_by : (o : Option (List ℕ)) → packet_at packets (first_packet +ℤ pos c.next) ≡ o → (given : CollectorItem) → IsItem c given
      → given ≡ item_by carry o c.next (got window first_packet all c.next)
  given_by None at (Packet q bytes) is = absurd (let e : false ≡ true = sym (ap suffice (nothing at)) ∙ is.1 in cc)
  given_by None at (Damaged q) is = absurd (let e : false ≡ true = sym (ap suffice (nothing at)) ∙ is.1 in cc)
  given_by None at (Lost q had total) is =
      let n : had ≡ 0 = is.2 ∙ ap length (nothing at) in
      let t : total ≡ 0 = is.3 ∙ ap count_of (nothing at) in
      let p = is.0 in cc
  given_by (Some packet) at (Packet q bytes) is =
      let p = is.0 in
      let b : bytes ≡ packet = (cut c.next packet at).decoded_only (of_packet c.next c.kept) bytes (those_sent packet at) (ascending c.next c.kept h.ordered) is.1 is.2 in
      let e : Packet q bytes ≡ Packet c.next packet = cc in
      e ∙ sym (cond-true (is_recoverable (shape_under carry (length packet)) (got window first_packet all c.next)) _ _ (given_is packet at is.1))
  given_by (Some packet) at (Damaged q) is =
      absurd (is.2 packet ((cut c.next packet at).decoded (of_packet c.next c.kept) (those_sent packet at) (ascending c.next c.kept h.ordered) is.1))
  given_by (Some packet) at (Lost q had total) is =
      let count = datagrams_of carry packet in
      let z : size (datagrams_of carry packet) (got window first_packet all c.next) ≡ had
      = size_same (datagrams_of carry packet) (got window first_packet all c.next) (has_index (of_packet c.next c.kept)) (λ i l. got_is is.1 i)
      ∙ sym (h.counted c.next packet (omega arith) at) ∙ sym is.2 in
      ap (λ k. Lost k had total) is.0
      ∙ lost_by c.next had total count (of_packet c.next c.kept) is.2 is.3 (count_of_is carry packet (cut c.next packet at) (of_packet c.next c.kept) (those_sent packet at))
      ∙ ap (λ k. Lost c.next k (cond (eqb k 0) 0 count)) (sym z)
      ∙ sym (cond-false (is_recoverable (shape_under carry (length packet)) (got window first_packet all c.next)) _ _ (lost_is packet at is.1))

  -- what is given is the item
  pub item_is : (given : CollectorItem) → IsItem c given → given ≡ item carry packets window first_packet all c.next
  item_is given is = given_by (packet_at packets (first_packet +ℤ pos c.next)) refl given is

-- What a collector is after some pairs of a delivery.
use Rattle.std.proofs.Common.{ℕ, ◌≡◌, ◌+◌, ◌≤◌, true, eqb, List, [], ◌∷◌, ◌++◌, length, Option, Some, None, ◌⊎◌, inl, inr, ⊎_elim, sym, ap, ◌∙◌}
use Rattle.std.specs.Prelude.{ℤ, pos, ◌+ℤ◌}
use Rattle.std.specs.List.{AllByRecursion}
use Rattle.dcp_pft.specs.Loss.{size}
use Rattle.dcp_collect.specs.Fragments.{NumberedFragment, has_index, suffice, of_packet}
use Rattle.dcp_collect.specs.CollectorState.{CollectorState, reached}
use Rattle.dcp_pft.specs.declared.carry.Carry.{Carry}
use Rattle.law_collect.specs.Delivery.{packet_at, got, newest_of}
use Rattle.law_collect.proofs.Sent.{datagrams_of}
use Rattle.dcp_collect.proofs.Lists.{all_filter, all_weaker}
use Rattle.law_collect.proofs.Ordered.{IsOrdered}
use Rattle.law_collect.proofs.Got.{closed, got_more, closed_is}
use Rattle.law_collect.proofs.Packets.{IsSent}
use Rattle.law_collect.proofs.Reached.{numbered}

-- a kept fragment was sent, its number is yet to be given, and is no more than the newest
abbrev pub IsKept : Carry → List (List ℕ) → ℤ → ℕ → Option ℕ → NumberedFragment → Type 0
IsKept carry packets first_packet next newest f = IsSent carry packets first_packet f × (next ≤ f.number) × (reached newest f.number ≡ true)

-- the collector after these pairs
pub record IsAfter (carry : Carry) (packets : List (List ℕ)) (window : ℕ) (first_packet : ℤ) (pairs : List (ℕ × ℕ)) (c : CollectorState) : Type 0 where
  pub window_is : c.window ≡ window
  pub newest_is : c.newest ≡ newest_of first_packet None pairs
  pub sent : AllByRecursion (IsKept carry packets first_packet c.next c.newest) c.kept
  pub ordered : IsOrdered c.kept
  -- what is kept of a packet that is yet to be given was got
  pub held : (q i : ℕ) → c.next ≤ q → has_index (of_packet q c.kept) i ≡ true → got window first_packet pairs q i ≡ true
  -- and is enough, or is all that was got
  pub complete : (q : ℕ) → c.next ≤ q →
      (suffice (of_packet q c.kept) ≡ true) ⊎ ((i : ℕ) → got window first_packet pairs q i ≡ true → has_index (of_packet q c.kept) i ≡ true)
  -- no index is kept twice
  pub counted : (q : ℕ) (packet : List ℕ) → c.next ≤ q → packet_at packets (first_packet +ℤ pos q) ≡ Some packet →
      length (of_packet q c.kept) ≡ size (datagrams_of carry packet) (has_index (of_packet q c.kept))

module _ (carry : Carry) (packets : List (List ℕ)) (window : ℕ) (first_packet : ℤ) (pairs : List (ℕ × ℕ)) (c : CollectorState) (h : IsAfter carry packets window first_packet pairs c) where
  -- a number of which something is kept is no more than the newest
  pub reached_by : (n : ℕ) → (suffice (of_packet n c.kept) ≡ true) ⊎ ((i : ℕ) × (has_index (of_packet n c.kept) i ≡ true)) → reached c.newest n ≡ true
  reached_by n some =
      numbered (IsKept carry packets first_packet c.next c.newest) c.newest n (of_packet n c.kept) (λ f k. k.2)
      (all_filter (IsKept carry packets first_packet c.next c.newest) (λ f. eqb f.number n) c.kept h.sent) some

  pub sent_all : AllByRecursion (IsSent carry packets first_packet) c.kept
  sent_all = all_weaker (IsKept carry packets first_packet c.next c.newest) (IsSent carry packets first_packet) (λ f k. k.0) c.kept h.sent

  -- the newest number closes n exactly where a pair does
  pub closed_same : (n : ℕ) → reached c.newest (n + c.window) ≡ closed window first_packet pairs n
  closed_same n = ap (λ k. reached c.newest (n + k)) h.window_is ∙ ap (λ m. reached m (n + window)) h.newest_is ∙ closed_is window first_packet pairs n

  pub unchanged : (pair : ℕ × ℕ) → newest_of first_packet None (pairs ++ pair ∷ []) ≡ newest_of first_packet None pairs
      → ((q : ℕ) → c.next ≤ q →
      (suffice (of_packet q c.kept) ≡ true) ⊎ ((i : ℕ) → got window first_packet (pairs ++ pair ∷ []) q i ≡ true → got window first_packet pairs q i ≡ true))
      → IsAfter carry packets window first_packet (pairs ++ pair ∷ []) c
  unchanged pair e old = record {
    window_is = h.window_is;
    newest_is = h.newest_is ∙ sym e;
    sent = h.sent;
    ordered = h.ordered;
    held = λ q i l t. got_more window first_packet pairs (pair ∷ []) q i (h.held q i l t);
    complete = λ q l. ⊎_elim (λ s. inl s)
        (λ g. ⊎_elim (λ s. inl s) (λ k. inr (λ i t. k i (g i t))) (h.complete q l)) (old q l);
    counted = h.counted;
  }

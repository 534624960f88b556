-- What becomes of items that are passed on, one after another.
use Rattle.std.proofs.Common.{◌≡◌, ℕ, ◌+◌, ◌≤◌, List, [], ◌∷◌, ◌++◌, length, sym, subst, ap, ◌∙◌, refl, arith, length-append, unwrap_or}
use Rattle.std.proofs.lemmas.List.Concat.{flat_map-append}
use Rattle.dcp_pft.specs.declared.carry.Carry.{Carry}
use Rattle.recv_reading.proofs.Common.{CollectorState, CollectorItem, Packet, Lost, Damaged, IsItem, MayBeFirst, KnowsFirst, KeepsFirst, first_of}
use Rattle.recv_reading.proofs.First.{packet_first}
use Rattle.recv_reading.specs.ReadingReached.{packets_in}
use Rattle.drm_gate.specs.declared.tally.Tally.{Tally}
use Rattle.drm_gate.specs.Passing.{Outcome, Sent, Bad, Large, Missing, OutcomeOf, OutcomesOf, datagrams_of, sent_of}
use Rattle.drm_gate.specs.Tallies.{nothing, plus, tally_one, tally_of}
use Rattle.drm_gate.proofs.Tallying.{plus_nothing, tally_join}

-- These items became this, and were counted.
pub record PassedAll (carry : Carry) (c : CollectorState) (items : List CollectorItem) (t : Tally) (fates : List Outcome) : Type 0 where
  pub many : length fates ≡ length items
  pub become : (first : ℕ) → MayBeFirst c first → OutcomesOf carry first items fates
  pub tally : t ≡ tally_of fates

pub become_join : (carry : Carry) (first : ℕ) (items more : List CollectorItem) (fates others : List Outcome) → OutcomesOf carry first items fates → OutcomesOf carry first more others → OutcomesOf carry first (items ++ more) (fates ++ others)
become_join carry first [] more [] others a b = b
become_join carry first [] more (fate ∷ fates) others a b = absurd a
become_join carry first (item ∷ items) more [] others a b = absurd a
become_join carry first (item ∷ items) more (fate ∷ fates) others a b = (a.0, become_join carry first items more fates others a.1 b)

pub sent_join : (xs ys : List Outcome) → sent_of (xs ++ ys) ≡ sent_of xs ++ sent_of ys
sent_join xs ys = flat_map-append datagrams_of xs ys

-- ---- the first number

lost_at : (carry : Carry) (m n q had total : ℕ) (fate : Outcome) → OutcomeOf carry m (Lost q had total) fate → OutcomeOf carry n (Lost q had total) fate
lost_at carry m n q had total (Sent datagrams) is = absurd is
lost_at carry m n q had total Bad is = absurd is
lost_at carry m n q had total Large is = absurd is
lost_at carry m n q had total Missing is = tt

damaged_at : (carry : Carry) (m n q : ℕ) (fate : Outcome) → OutcomeOf carry m (Damaged q) fate → OutcomeOf carry n (Damaged q) fate
damaged_at carry m n q (Sent datagrams) is = absurd is
damaged_at carry m n q Bad is = tt
damaged_at carry m n q Large is = absurd is
damaged_at carry m n q Missing is = absurd is

becomes_at : (carry : Carry) (d : CollectorState) (item : CollectorItem) (fate : Outcome) (first : ℕ) → KnowsFirst d → IsItem d item → MayBeFirst d first → OutcomeOf carry (unwrap_or d.first 0) item fate → OutcomeOf carry first item fate
becomes_at carry d (Packet q bytes) fate first knows is may becomes =
    let at : unwrap_or d.first 0 ≡ first = packet_first d q bytes first knows is may in
    subst (λ (n : ℕ). OutcomeOf carry n (Packet q bytes) fate) at becomes
becomes_at carry d (Lost q had total) fate first knows is may becomes = lost_at carry (unwrap_or d.first 0) first q had total fate becomes
becomes_at carry d (Damaged q) fate first knows is may becomes = damaged_at carry (unwrap_or d.first 0) first q fate becomes

-- ---- several

-- nothing was passed on yet
pub all_none : (carry : Carry) (c : CollectorState) (t : Tally) → t ≡ nothing → PassedAll carry c [] t []
all_none carry c t empty = record { many = refl; become = λ first may. tt; tally = empty }

-- one item more; what may be the first number of the later state may be that of the earlier one
pub all_more : (carry : Carry) (c d : CollectorState) (items : List CollectorItem) (t u : Tally) (fates : List Outcome) (item : CollectorItem) (fate : Outcome) → KeepsFirst c d → KnowsFirst c → IsItem c item
    → PassedAll carry c items t fates → OutcomeOf carry (first_of c) item fate → u ≡ plus t (tally_one fate) → PassedAll carry d (items ++ item ∷ []) u (fates ++ fate ∷ [])
all_more carry c d items t u fates item fate keeps knows is all becomes counted = record {
  many = omega (arith, length-append fates (fate ∷ []), length-append items (item ∷ []), all.many);
  become = λ first may. become_join carry first items (item ∷ []) fates (fate ∷ []) (all.become first (keeps first may)) (becomes_at carry c item fate first knows is (keeps first may) becomes, tt);
  tally = counted ∙ (ap (λ v. plus v (tally_one fate)) all.tally ∙ (ap (plus (tally_of fates)) (sym (plus_nothing (tally_one fate))) ∙ sym (tally_join fates (fate ∷ []))));
}

-- ---- at another state

pub all_later : (carry : Carry) (c d : CollectorState) (items : List CollectorItem) (t : Tally) (fates : List Outcome) → KeepsFirst c d → PassedAll carry c items t fates → PassedAll carry d items t fates
all_later carry c d items t fates keeps all = record { many = all.many; become = λ first may. all.become first (keeps first may); tally = all.tally }

-- ---- how many packets are sent

sent_one : (carry : Carry) (first : ℕ) (item : CollectorItem) (fate : Outcome) → OutcomeOf carry first item fate → (tally_one fate).given + packets_in [] ≤ packets_in (item ∷ [])
sent_one carry first (Packet q bytes) (Sent datagrams) becomes = omega arith
sent_one carry first (Packet q bytes) Bad becomes = omega arith
sent_one carry first (Packet q bytes) Large becomes = omega arith
sent_one carry first (Packet q bytes) Missing becomes = omega arith
sent_one carry first (Lost q had total) (Sent datagrams) becomes = absurd becomes
sent_one carry first (Lost q had total) Bad becomes = absurd becomes
sent_one carry first (Lost q had total) Large becomes = absurd becomes
sent_one carry first (Lost q had total) Missing becomes = omega arith
sent_one carry first (Damaged q) (Sent datagrams) becomes = absurd becomes
sent_one carry first (Damaged q) Bad becomes = omega arith
sent_one carry first (Damaged q) Large becomes = absurd becomes
sent_one carry first (Damaged q) Missing becomes = absurd becomes

packets_one : (item : CollectorItem) (items : List CollectorItem) → packets_in (item ∷ items) ≡ packets_in (item ∷ []) + packets_in items
packets_one (Packet q bytes) items = omega arith
packets_one (Lost q had total) items = omega arith
packets_one (Damaged q) items = omega arith

-- none but packets
pub sent_packets : (carry : Carry) (first : ℕ) (items : List CollectorItem) (fates : List Outcome) → OutcomesOf carry first items fates → (tally_of fates).given ≤ packets_in items
sent_packets carry first [] [] all = omega arith
sent_packets carry first [] (fate ∷ fates) all = absurd all
sent_packets carry first (item ∷ items) [] all = absurd all
sent_packets carry first (item ∷ items) (fate ∷ fates) all =
    omega (arith, sent_one carry first item fate all.0, sent_packets carry first items fates all.1, packets_one item items)

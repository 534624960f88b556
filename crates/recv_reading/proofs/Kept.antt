-- How much a collector keeps.
use Rattle.std.proofs.Common.{◌≡◌, ℕ, ◌+◌, ◌≤◌, Bool, true, false, cond, List, [], ◌∷◌, ◌++◌, length, sym, subst, refl, arith, ◌==◌, not}
use Rattle.std.proofs.lemmas.List.Filters.{length-filter_both}
use Rattle.dcp_collect.specs.declared.taken.Taken.{Taken}
use Rattle.dcp_collect.specs.Fragments.{NumberedFragment, suffice, of_packet}
use Rattle.dcp_collect.specs.Reading.{DatagramContent, Unread, Brings}
use Rattle.dcp_collect.specs.CollectorState.{CollectorState, is_before, insert_kept, number_of, answer, after_take, after_item}
use Rattle.dcp_collect.specs.Runs.{CollectorItem, Packet, Lost, Damaged, IsItem, CollectorTakes}
use Rattle.law_collect.proofs.Stays.{after_by}
use Rattle.recv_reading.specs.ReadingReached.{packets_in}

-- ---- one more is kept

length_put : (b : Bool) (f g : NumberedFragment) (gs rest : List NumberedFragment) → length rest ≡ length gs + 1 → length (cond b (f ∷ g ∷ gs) (g ∷ rest)) ≡ length (g ∷ gs) + 1
length_put true f g gs rest e = omega arith
length_put false f g gs rest e = omega (arith, e)

length_insert : (f : NumberedFragment) (gs : List NumberedFragment) → length (insert_kept f gs) ≡ length gs + 1
length_insert f [] = omega arith
length_insert f (g ∷ gs) = length_put (is_before f g) f g gs (insert_kept f gs) (length_insert f gs)

kept_read : (c : CollectorState) (read : DatagramContent) → length (after_take c read).kept ≤ length c.kept + 1
kept_read c (Unread field) = omega arith
kept_read c (Brings incoming) =
    after_by (λ d. length d.kept ≤ length c.kept + 1) c (number_of c incoming) incoming (answer c (Brings incoming)) (omega arith)
    (λ m. let e = length_insert (record { number = m; head = incoming.head; payload = incoming.payload }) c.kept in omega (arith, e))

-- a datagram that is taken
pub kept_taken : (c k : CollectorState) (bytes : List ℕ) (a : Taken) → CollectorTakes c bytes a k → length k.kept ≤ length c.kept + 1
kept_taken c k bytes a takes = subst (λ (s : CollectorState). length s.kept ≤ length c.kept + 1) (sym takes.after_is) (kept_read c takes.read)

-- ---- those of a packet are dropped

dropped : (c : CollectorState) → length (of_packet c.next c.kept) + length (after_item c).kept ≡ length c.kept
dropped c = length-filter_both (λ (f : NumberedFragment). f.number == c.next) (λ (f : NumberedFragment). not (f.number == c.next)) (λ f. refl) c.kept

pub fewer_kept : (c : CollectorState) → length (after_item c).kept ≤ length c.kept
fewer_kept c = let e = dropped c in omega (arith, e)

some_suffice : (fs : List NumberedFragment) → suffice fs ≡ true → 1 ≤ length fs
some_suffice [] is = absurd (let clash : false ≡ true = is in cc)
some_suffice (f ∷ fs) is = omega arith

-- a packet that is given had a datagram that was kept
pub packet_kept : (c : CollectorState) (q : ℕ) (bytes : List ℕ) → IsItem c (Packet q bytes) → length (after_item c).kept + 1 ≤ length c.kept
packet_kept c q bytes is =
    let some = some_suffice (of_packet c.next c.kept) is.1 in
    omega (arith, dropped c, some)

-- ---- how many packets are given

one_packet : CollectorItem → ℕ
one_packet (Packet q bytes) = 1
one_packet (Lost q had total) = 0
one_packet (Damaged q) = 0

packets_more : (items : List CollectorItem) (item : CollectorItem) → packets_in (items ++ item ∷ []) ≡ packets_in items + one_packet item
unfolding one_packet
packets_more [] (Packet q bytes) = refl
packets_more [] (Lost q had total) = omega arith
packets_more [] (Damaged q) = omega arith
packets_more (Packet p xs ∷ items) item = let e = packets_more items item in omega (arith, e)
packets_more (Lost p had total ∷ items) item = packets_more items item
packets_more (Damaged p ∷ items) item = packets_more items item

kept_one : (c : CollectorState) (item : CollectorItem) → IsItem c item → length (after_item c).kept + one_packet item ≤ length c.kept
unfolding one_packet
kept_one c (Packet q bytes) is = packet_kept c q bytes is
kept_one c (Lost q had total) is = let e = fewer_kept c in omega (arith, e)
kept_one c (Damaged q) is = let e = fewer_kept c in omega (arith, e)

-- no more packets are given, or may be, than datagrams were taken
pub few_given : (items : List CollectorItem) (item : CollectorItem) (c : CollectorState) (taken : ℕ) → packets_in items + length c.kept ≤ taken → IsItem c item → packets_in (items ++ item ∷ []) + length (after_item c).kept ≤ taken
few_given items item c taken few is =
    omega (arith, few, packets_more items item, kept_one c item is)

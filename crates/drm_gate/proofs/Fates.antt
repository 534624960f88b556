-- An item has one fate, as far as datagrams go.
use Rattle.std.proofs.Common.{◌≡◌, ◌≤◌, ℕ, List, [], ◌∷◌, ◌++◌, length, sym, ap, ap₂, ◌∙◌, refl, arith, slice_index_or}
use Rattle.std.proofs.lemmas.Bool.{true≢false}
use Rattle.std.proofs.lemmas.List.{same_lists}
use Rattle.dcp_pft.specs.declared.carry.Carry.{Carry}
use Rattle.dcp_pft.specs.declared.carry.Carry.TheVariants.{Plain, Pft}
use Rattle.dcp_pft.specs.Carrying.{CarriesPacket}
use Rattle.dcp_pft.proofs.OneFragment.{one_datagram}
use Rattle.dcp_af.proofs.Answered.{no_fault}
use Rattle.dcp_collect.specs.Runs.{CollectorItem, Packet, Lost, Damaged}
use Rattle.law_collect.proofs.SentCuts.{packet_long}
use Rattle.dcp_sender.specs.CarriesText.{AreOf}
use Rattle.dcp_sender.specs.Packets.{IsAny, sequence_of}
use Rattle.drm_gate.specs.Passing.{Outcome, Sent, Bad, Large, Missing, IsNone, OutcomeOf, OutcomesOf, datagrams_of, sent_of}

-- ---- the datagrams of a packet

carried_same : (carry : Carry) (sequence i : ℕ) (packet a b : List ℕ) → 1 ≤ length packet → CarriesPacket carry sequence packet i a → CarriesPacket carry sequence packet i b → a ≡ b
carried_same Plain sequence i packet a b some p q = p ∙ sym q
carried_same (Pft m mtu) sequence i packet a b some p q = sym (one_datagram m mtu sequence i packet a b some p q)

some_bytes : (packet : List ℕ) → IsAny packet → 1 ≤ length packet
some_bytes packet any = let l = packet_long any.0 packet any.1 in omega (arith, l)

pub one_sending : (carry : Carry) (sequence : ℕ) (packet : List ℕ) (xs ys : List (List ℕ)) → IsAny packet → AreOf carry sequence packet xs → AreOf carry sequence packet ys → xs ≡ ys
one_sending carry sequence packet xs ys any a b =
    let size : length xs ≡ length ys = a.many ∙ sym b.many in
    same_lists xs ys size
    (λ i none below. carried_same carry sequence i packet (slice_index_or xs i none) (slice_index_or ys i none) (some_bytes packet any) (a.each i none below) (b.each i none (omega (arith, below, size))))

-- ---- one item

no_bad : (bytes : List ℕ) → IsAny bytes → IsNone bytes → ⊥
no_bad bytes any none = no_fault any.0 none.0 bytes any.1 none.1

sent_first : (carry : Carry) (first : ℕ) (item : CollectorItem) (xs : List (List ℕ)) (h : Outcome) → OutcomeOf carry first item (Sent xs) → OutcomeOf carry first item h → xs ≡ datagrams_of h
sent_first carry first (Packet q bytes) xs (Sent ys) a b = one_sending carry (sequence_of first q) bytes xs ys a.0 a.2 b.2
sent_first carry first (Packet q bytes) xs Bad a b = absurd (no_bad bytes a.0 b)
sent_first carry first (Packet q bytes) xs Large a b = absurd (true≢false (sym b.1 ∙ a.1))
sent_first carry first (Packet q bytes) xs Missing a b = absurd b
sent_first carry first (Lost q had total) xs h a b = absurd a
sent_first carry first (Damaged q) xs h a b = absurd a

pub one_sent : (carry : Carry) (first : ℕ) (item : CollectorItem) (g h : Outcome) → OutcomeOf carry first item g → OutcomeOf carry first item h → datagrams_of g ≡ datagrams_of h
one_sent carry first item (Sent xs) h a b = sent_first carry first item xs h a b
one_sent carry first item Bad (Sent ys) a b = sym (sent_first carry first item ys Bad b a)
one_sent carry first item Large (Sent ys) a b = sym (sent_first carry first item ys Large b a)
one_sent carry first item Missing (Sent ys) a b = sym (sent_first carry first item ys Missing b a)
one_sent carry first item Bad Bad a b = refl
one_sent carry first item Bad Large a b = refl
one_sent carry first item Bad Missing a b = refl
one_sent carry first item Large Bad a b = refl
one_sent carry first item Large Large a b = refl
one_sent carry first item Large Missing a b = refl
one_sent carry first item Missing Bad a b = refl
one_sent carry first item Missing Large a b = refl
one_sent carry first item Missing Missing a b = refl

-- ---- several

pub all_sent : (carry : Carry) (first : ℕ) (items : List CollectorItem) (fs gs : List Outcome) → OutcomesOf carry first items fs → OutcomesOf carry first items gs → sent_of fs ≡ sent_of gs
all_sent carry first [] [] [] a b = refl
all_sent carry first [] [] (g ∷ gs) a b = absurd b
all_sent carry first [] (f ∷ fs) gs a b = absurd a
all_sent carry first (item ∷ items) [] gs a b = absurd a
all_sent carry first (item ∷ items) (f ∷ fs) [] a b = absurd b
all_sent carry first (item ∷ items) (f ∷ fs) (g ∷ gs) a b = ap₂ (λ x y. x ++ y) (one_sent carry first item f g a.0 b.0) (all_sent carry first items fs gs a.1 b.1)

pub split : (carry : Carry) (first : ℕ) (items more : List CollectorItem) (fates : List Outcome) → OutcomesOf carry first (items ++ more) fates
    → (fs : List Outcome) × (gs : List Outcome) × (fates ≡ fs ++ gs) × OutcomesOf carry first items fs × OutcomesOf carry first more gs
split carry first [] more fates all = ([], fates, refl, tt, all)
split carry first (item ∷ items) more [] all = absurd all
split carry first (item ∷ items) more (fate ∷ fates) all =
    let (fs, gs, are, front, back) = split carry first items more fates all.1 in
    (fate ∷ fs, gs, ap (λ l. fate ∷ l) are, (all.0, front), back)

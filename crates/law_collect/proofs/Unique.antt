-- A collector answers datagrams, and gives items, in one way.
use Rattle.std.proofs.Common.{ℕ, ◌≡◌, true, false, List, [], ◌∷◌, ◌++◌, refl, sym, ap, ◌∙◌, subst}
use Rattle.dcp_collect.specs.declared.taken.Taken.{Taken}
use Rattle.dcp_collect.specs.Fragments.{NumberedFragment, suffice, of_packet}
use Rattle.dcp_collect.specs.CollectorState.{CollectorState, answer, after_item, after_take}
use Rattle.dcp_collect.specs.Decoding.{IsDecoded}
use Rattle.dcp_collect.specs.Runs.{CollectorItem, Packet, Lost, Damaged, IsItem, CollectorTakes, CollectorGives, CollectorSteps}
use Rattle.law_collect.specs.Laws.{OneReading, OneGiving, OneRun}

-- fragments give no two byte lists
abbrev pub OneDecoding : Type 0
OneDecoding = (fs : List NumberedFragment) (a b : List ℕ) → suffice fs ≡ true → IsDecoded fs a → IsDecoded fs b → b ≡ a

-- a packet is no lost one
no_packet : (c : CollectorState) (q r had total : ℕ) (bytes : List ℕ) → IsItem c (Packet q bytes) → IsItem c (Lost r had total) → ⊥
no_packet c q r had total bytes g h = let e : true ≡ false = sym g.1 ∙ h.1 in cc

-- nor a damaged one
no_damage : (c : CollectorState) (q r had total : ℕ) → IsItem c (Damaged q) → IsItem c (Lost r had total) → ⊥
no_damage c q r had total g h = let e : true ≡ false = sym g.1 ∙ h.1 in cc

one_item : (one_decoding : OneDecoding) (c : CollectorState) (a b : CollectorItem) → IsItem c a → IsItem c b → b ≡ a
one_item one_decoding c (Packet q x) (Packet r y) g h =
    let p = g.0 in let o = h.0 in
    let e : y ≡ x = one_decoding (of_packet c.next c.kept) x y g.1 g.2 h.2 in cc
one_item one_decoding c (Packet q x) (Lost r had total) g h = absurd (no_packet c q r had total x g h)
one_item one_decoding c (Packet q x) (Damaged r) g h = absurd (h.2 x g.2)
one_item one_decoding c (Lost q had total) (Packet r y) g h = absurd (no_packet c r q had total y h g)
one_item one_decoding c (Lost q had total) (Lost r m n) g h =
    let a = g.0 in let b = h.0 in let d = g.2 in let e = h.2 in let f = g.3 in let k = h.3 in cc
one_item one_decoding c (Lost q had total) (Damaged r) g h = absurd (no_damage c r q had total h g)
one_item one_decoding c (Damaged q) (Packet r y) g h = absurd (g.2 y h.2)
one_item one_decoding c (Damaged q) (Lost r had total) g h = absurd (no_damage c q r had total g h)
one_item one_decoding c (Damaged q) (Damaged r) g h = ap Damaged (h.0 ∙ sym g.0)

pub one_giving : (one_decoding : OneDecoding) → OneGiving
one_giving one_decoding c after after' [] [] g h = (refl, h.1 ∙ sym g.1)
one_giving one_decoding c after after' [] (y ∷ ys) g h = absurd (let x : false ≡ true = sym g.0 ∙ h.0 in cc)
one_giving one_decoding c after after' (x ∷ xs) [] g h = absurd (let y : false ≡ true = sym h.0 ∙ g.0 in cc)
one_giving one_decoding c after after' (x ∷ xs) (y ∷ ys) g h =
    let head : y ≡ x = one_item one_decoding c x y g.1 h.1 in
    let rest = one_giving one_decoding (after_item c) after after' xs ys g.2 h.2 in
    (let p : ys ≡ xs = rest.0 in cc, rest.1)

-- a datagram is answered in one way
pub one_taking : (one_reading : OneReading) (c d d' : CollectorState) (datagram : List ℕ) (a a' : Taken)
    → CollectorTakes c datagram a d → CollectorTakes c datagram a' d' → (a' ≡ a) × (d' ≡ d)
one_taking one_reading c d d' datagram a a' g h =
    let e = one_reading datagram g.read h.read g.is_read h.is_read in
    (h.taken_is ∙ ap (answer c) e ∙ sym g.taken_is, h.after_is ∙ ap (after_take c) e ∙ sym g.after_is)

pub one_run : (one_reading : OneReading) → (one_decoding : OneDecoding) → OneRun
one_run one_reading one_decoding c after after' [] [] [] given given' g h = (refl, h.0 ∙ sym g.0, h.1 ∙ sym g.1)
one_run one_reading one_decoding c after after' [] (a ∷ answers) answers' given given' g h = absurd g
one_run one_reading one_decoding c after after' [] [] (a ∷ answers') given given' g h = absurd h
one_run one_reading one_decoding c after after' (datagram ∷ datagrams) [] answers' given given' g h = absurd g
one_run one_reading one_decoding c after after' (datagram ∷ datagrams) (a ∷ answers) [] given given' g h = absurd h
one_run one_reading one_decoding c after after' (datagram ∷ datagrams) (a ∷ answers) (a' ∷ answers') given given'
    (now, later, kept, mid, takes, gives, steps, are) (now', later', kept', mid', takes', gives', steps', are') =
    let taking = one_taking one_reading c kept kept' datagram a a' takes takes' in
    let items = one_giving one_decoding kept mid mid' now now' gives (subst (λ m. CollectorGives m now' mid') taking.1 gives') in
    let rest = one_run one_reading one_decoding mid after after' datagrams answers answers' later later' steps (subst (λ m. CollectorSteps m datagrams answers' later' after') items.1 steps') in (
      (let p : a' ≡ a = taking.0 in let q : answers' ≡ answers = rest.0 in cc),
      are' ∙ (let p : now' ≡ now = items.0 in let q : later' ≡ later = rest.1 in let e : (now' ++ later') ≡ (now ++ later) = cc in e) ∙ sym are,
      rest.2,
    )

-- The kept fragments of a packet that was sent.
use Rattle.std.proofs.Common.{ℕ, ◌≡◌, ◌<◌, Bool, true, false, not, eqb, List, [], ◌∷◌, length, Some, None, refl, sym, ap, ◌∙◌, subst, arith}
use Rattle.std.specs.Prelude.{ℤ, pos, ◌+ℤ◌}
use Rattle.std.specs.List.{AllByRecursion, find}
use Rattle.std.proofs.lemmas.Bool.{eqb-true, not_from_true}
use Rattle.dcp_pft.specs.Loss.{is_recoverable}
use Rattle.dcp_collect.specs.Fragments.{NumberedFragment, agree, has_index, shape_by, suffice, of_packet}
use Rattle.dcp_collect.specs.CollectorState.{count_of}
use Rattle.dcp_pft.specs.declared.carry.Carry.{Carry}
use Rattle.dcp_pft.specs.Carrying.{shape_under}
use Rattle.law_collect.specs.Delivery.{packet_at}
use Rattle.law_collect.proofs.Sent.{datagrams_of, head_of, IsOf, IsCut}
use Rattle.dcp_collect.proofs.Lists.{all_filter, all_weaker}

-- they suffice exactly where their indices do, for the packet's shape
pub suffice_is : (carry : Carry) (packet : List ℕ) (cut : IsCut carry packet) (fs : List NumberedFragment)
    → AllByRecursion (IsOf carry packet) fs → suffice fs ≡ is_recoverable (shape_under carry (length packet)) (has_index fs)
suffice_is carry packet cut [] all = sym cut.some_needed
suffice_is carry packet cut (f ∷ fs) all =
    ap (λ h. is_recoverable (shape_by h) (has_index (f ∷ fs))) all.0.1 ∙ cut.same_shape f.head.index (has_index (f ∷ fs)) all.0.0

pub count_of_is : (carry : Carry) (packet : List ℕ) (cut : IsCut carry packet) (fs : List NumberedFragment)
    → AllByRecursion (IsOf carry packet) fs → 0 < length fs → count_of fs ≡ datagrams_of carry packet
count_of_is carry packet cut [] all some = absurd (omega arith)
count_of_is carry packet cut (f ∷ fs) all some = ap (λ h. h.count) all.0.1 ∙ cut.counts f.head.index all.0.0

-- it is a fragment of the packet that has its number
abbrev pub IsSent : Carry → List (List ℕ) → ℤ → NumberedFragment → Type 0
IsSent carry packets first_packet f = (packet : List ℕ) × (packet_at packets (first_packet +ℤ pos f.number) ≡ Some packet) × IsOf carry packet f

fragment_of : (carry : Carry) (packets : List (List ℕ)) (first_packet : ℤ) (q : ℕ) (packet : List ℕ) → packet_at packets (first_packet +ℤ pos q) ≡ Some packet
    → (f : NumberedFragment) → IsSent carry packets first_packet f × (eqb f.number q ≡ true) → IsOf carry packet f
fragment_of carry packets first_packet q packet is f h =
    let n : f.number ≡ q = eqb-true f.number q h.1 in
    let e : packet_at packets (first_packet +ℤ pos q) ≡ Some h.0.0 = subst (λ k. packet_at packets (first_packet +ℤ pos k) ≡ Some h.0.0) n h.0.1 in
    let t : h.0.0 ≡ packet = cc in
    subst (λ x. IsOf carry x f) t h.0.2

pub those_of : (carry : Carry) (packets : List (List ℕ)) (first_packet : ℤ) (q : ℕ) (packet : List ℕ) → packet_at packets (first_packet +ℤ pos q) ≡ Some packet
    → (fs : List NumberedFragment) → AllByRecursion (IsSent carry packets first_packet) fs → AllByRecursion (IsOf carry packet) (of_packet q fs)
those_of carry packets first_packet q packet is fs all =
    all_weaker (λ f. IsSent carry packets first_packet f × (eqb f.number q ≡ true)) (IsOf carry packet) (fragment_of carry packets first_packet q packet is) (of_packet q fs)
    (all_filter (IsSent carry packets first_packet) (λ f. eqb f.number q) fs all)

none_of_any : (fs : List NumberedFragment) → AllByRecursion (λ f. ⊥) fs → fs ≡ []
none_of_any [] h = refl
none_of_any (f ∷ fs) h = absurd h.0

no_fragment : (carry : Carry) (packets : List (List ℕ)) (first_packet : ℤ) (q : ℕ) → packet_at packets (first_packet +ℤ pos q) ≡ None
    → (f : NumberedFragment) → IsSent carry packets first_packet f × (eqb f.number q ≡ true) → ⊥
no_fragment carry packets first_packet q is f h =
    let n : f.number ≡ q = eqb-true f.number q h.1 in
    let e : packet_at packets (first_packet +ℤ pos q) ≡ Some h.0.0 = subst (λ k. packet_at packets (first_packet +ℤ pos k) ≡ Some h.0.0) n h.0.1 in
    cc

-- nothing is kept of a packet that isn't there
pub none_of : (carry : Carry) (packets : List (List ℕ)) (first_packet : ℤ) (q : ℕ) → packet_at packets (first_packet +ℤ pos q) ≡ None
    → (fs : List NumberedFragment) → AllByRecursion (IsSent carry packets first_packet) fs → of_packet q fs ≡ []
none_of carry packets first_packet q is fs all =
    none_of_any (of_packet q fs)
    (all_weaker (λ f. IsSent carry packets first_packet f × (eqb f.number q ≡ true)) (λ f. ⊥) (no_fragment carry packets first_packet q is) (of_packet q fs)
    (all_filter (IsSent carry packets first_packet) (λ f. eqb f.number q) fs all))

find_none : (p : NumberedFragment → Bool) (fs : List NumberedFragment) → AllByRecursion (λ f. p f ≡ false) fs → find p fs ≡ None
find_none p [] h = refl
find_none p (f ∷ fs) h = rw h.0 (find_none p fs h.1)

agrees_with : (carry : Carry) (packet : List ℕ) (cut : IsCut carry packet) (i : ℕ) → i < datagrams_of carry packet
    → (f : NumberedFragment) → IsOf carry packet f → not (agree f.head (head_of carry packet i)) ≡ false
agrees_with carry packet cut i l f h =
    not_from_true (agree f.head (head_of carry packet i)) (ap (λ x. agree x (head_of carry packet i)) h.1 ∙ cut.agrees f.head.index i h.0 l)

-- no fragment of the packet disagrees with another
pub none_disagrees : (carry : Carry) (packet : List ℕ) (cut : IsCut carry packet) (i : ℕ) → i < datagrams_of carry packet
    → (fs : List NumberedFragment) → AllByRecursion (IsOf carry packet) fs → find (λ f. not (agree f.head (head_of carry packet i))) fs ≡ None
none_disagrees carry packet cut i l fs all =
    find_none (λ f. not (agree f.head (head_of carry packet i))) fs
    (all_weaker (IsOf carry packet) (λ f. not (agree f.head (head_of carry packet i)) ≡ false) (agrees_with carry packet cut i l) fs all)

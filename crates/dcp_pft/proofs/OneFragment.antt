-- A packet has one parity, and each of its fragments is one datagram.
use Rattle.std.proofs.Common.{ℕ, zero, suc, ◌≡◌, ◌≤◌, Option, None, Some, List, ◌++◌, length, take, drop, refl, sym, subst, ap, ◌∙◌, arith, length-take}
use Rattle.std.specs.Int.{w16, to_be_bytes}
use Rattle.std.proofs.lemmas.List.{take-append-drop}
use Rattle.drm_bits.proofs.Checks.{one_check}
use Rattle.rs_erase.proofs.OneWord.{one_parity}
use Rattle.dcp_pft.specs.declared.shape.Rs.{Rs}
use Rattle.dcp_pft.specs.declared.shape.Shape.{Shape}
use Rattle.dcp_pft.specs.Cutting.{chunk_size, coded_shape, plain_shape, shape_of}
use Rattle.dcp_pft.specs.Coding.{AreParities, IsParityOf, filled}
use Rattle.dcp_pft.specs.Head.{PftFragment, SpellsHead, head, fragment_of}
use Rattle.dcp_pft.specs.Laws.{OneFragment}
use Rattle.dcp_pft.proofs.Sizes.{short_chunks}
use Rattle.dcp_pft.proofs.Shapes.{code_of}
use Rattle.dcp_pft.proofs.Fragments.{with_rs, chunks_by, parities_with}

-- the parities of the same chunks
same_parities : (c k : ℕ) (chunks first second : List ℕ) → k ≤ 207 → AreParities c k chunks first → AreParities c k chunks second → second ≡ first
same_parities zero k chunks first second small is other = other ∙ sym is
same_parities (suc c) k chunks first second small is other =
    let front : take 48 second ≡ take 48 first = one_parity (take k chunks) (take 48 first) (take 48 second) (omega (arith, length-take k chunks)) is.0 other.0 in
    let rest : drop 48 second ≡ drop 48 first = same_parities c k (drop k chunks) (drop 48 first) (drop 48 second) small is.1 other.1 in
    sym (take-append-drop 48 second)
    ∙ (ap (λ (l : List ℕ). l ++ drop 48 second) front ∙ (ap (λ (l : List ℕ). take 48 first ++ l) rest ∙ take-append-drop 48 first))

-- no chunk is longer than the code takes
abbrev pub HasShortChunks : Shape → Type 0
HasShortChunks shape = (rs : Rs) → shape.rs ≡ Some rs → rs.k ≤ 207

none_coded : (len mtu : ℕ) (rs : Rs) → (plain_shape len mtu).rs ≡ Some rs → ⊥
none_coded len mtu rs is = cc

coded_size_is : (len m mtu : ℕ) (rs : Rs) → (coded_shape len m mtu).rs ≡ Some rs → chunk_size len ≡ rs.k
coded_size_is len m mtu rs is = let same : code_of len ≡ rs = cc in ap (λ (r : Rs). r.k) same

short : (len m mtu : ℕ) → 1 ≤ len → HasShortChunks (shape_of len m mtu)
unfolding shape_of
short len zero mtu some rs has = absurd (none_coded len mtu rs has)
short len (suc m) mtu some rs has = omega (arith, short_chunks len some, coded_size_is len (suc m) mtu rs has)

-- by whether there is a code
same_by : (shape : Shape) (packet first second : List ℕ) → HasShortChunks shape → IsParityOf shape packet first → IsParityOf shape packet second
    → (o : Option Rs) → shape.rs ≡ o → second ≡ first
same_by shape packet first second is here there None none =
    let empty : (parity : List ℕ) → IsParityOf shape packet parity → IsParityOf (with_rs shape None) packet parity = λ parity h.
    subst (λ (o : Option Rs). IsParityOf (with_rs shape o) packet parity) none h in
    empty second there ∙ sym (empty first here)
same_by shape packet first second is here there (Some rs) has =
    same_parities (chunks_by shape rs) rs.k (filled rs packet) first second (is rs has)
    (parities_with shape rs packet first has here) (parities_with shape rs packet second has there)

pub one_parity_of : (shape : Shape) (packet first second : List ℕ) → HasShortChunks shape → IsParityOf shape packet first → IsParityOf shape packet second → second ≡ first
one_parity_of shape packet first second is here there = same_by shape packet first second is here there shape.rs refl

one_spelling : (f : PftFragment) (first second : List ℕ) → SpellsHead f first → SpellsHead f second → second ≡ first
one_spelling f first second is other =
    other.spelled
    ∙ (ap (λ (n : ℕ). head f ++ to_be_bytes w16 n ++ f.payload) (one_check (head f) other.check is.check other.checks is.checks) ∙ sym is.spelled)

pub one_datagram : OneFragment
one_datagram m mtu seq i packet first second some here there =
    let shape : Shape = shape_of (length packet) m mtu in
    let same = one_parity_of shape packet here.parity there.parity (short (length packet) m mtu some) here.is_parity there.is_parity in
    let moved : SpellsHead (fragment_of shape seq packet here.parity i) second =
    subst (λ (l : List ℕ). SpellsHead (fragment_of shape seq packet l i) second) same there.spells in
    one_spelling (fragment_of shape seq packet here.parity i) first second here.spells moved

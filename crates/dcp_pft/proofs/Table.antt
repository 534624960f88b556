-- The first row of a table that holds.
use Rattle.std.proofs.Common.{◌≡◌, None, ℕ, List, [], ◌∷◌, ◌++◌, ◌⊎◌, inl, inr, refl, sym, subst, ap, ◌∙◌, ◌≤◌, ◌<◌, arith, Option, Some, Result, Ok, Err}
use Rattle.std.specs.Prelude.{IfErr, IsSomeAnd}
use Rattle.dcp_pft.specs.declared.shape.Rs.{Rs}
use Rattle.dcp_pft.specs.declared.fault.PftFault.{PftFault}
use Rattle.dcp_pft.specs.declared.fault.PftFault.TheVariants.{Sync, HeadCut, HeadCrc, Count, Index, PlenMismatch, RsK, RsZ, TooMany, TooLarge, Chunks}
use Rattle.dcp_pft.specs.Faults.{IsFirstRow, NoneOf, code}
use Rattle.dcp_pft.specs.Reading.{number_rows, JudgesCode}

pub one_first : (rows : List PftFault) (f g : PftFault) (bytes : List ℕ) → IsFirstRow rows f bytes → IsFirstRow rows g bytes → f ≡ g
one_first [] f g bytes h k = absurd h
one_first (row ∷ rows) f g bytes (inl h) (inl k) = h.1 ∙ sym k.1
one_first (row ∷ rows) f g bytes (inl h) (inr k) = absurd (k.0 h.0)
one_first (row ∷ rows) f g bytes (inr h) (inl k) = absurd (h.0 k.0)
one_first (row ∷ rows) f g bytes (inr h) (inr k) = one_first rows f g bytes h.1 k.1

pub none_first : (rows : List PftFault) (f : PftFault) (bytes : List ℕ) → NoneOf rows bytes → IsFirstRow rows f bytes → ⊥
none_first [] f bytes none h = h
none_first (row ∷ rows) f bytes none (inl h) = none.0 h.0
none_first (row ∷ rows) f bytes none (inr h) = none_first rows f bytes none.1 h.1

-- in a longer table
pub first_front : (rows more : List PftFault) (f : PftFault) (bytes : List ℕ) → IsFirstRow rows f bytes → IsFirstRow (rows ++ more) f bytes
first_front [] more f bytes h = absurd h
first_front (row ∷ rows) more f bytes (inl h) = inl h
first_front (row ∷ rows) more f bytes (inr h) = inr (h.0, first_front rows more f bytes h.1)

pub first_behind : (rows more : List PftFault) (f : PftFault) (bytes : List ℕ) → NoneOf rows bytes → IsFirstRow more f bytes → IsFirstRow (rows ++ more) f bytes
first_behind [] more f bytes none h = h
first_behind (row ∷ rows) more f bytes none h = inr (none.0, first_behind rows more f bytes none.1 h)

-- a fault that is handed on
pub handed : {T : Type 0} (r : Result T PftFault) (e f : PftFault) (rows : List PftFault) (bytes : List ℕ) → r ≡ Err e → e ≡ f → IsFirstRow rows f bytes → IfErr r (λ fault. IsFirstRow rows fault bytes)
handed {T} r e f rows bytes is same h =
    let P : Result T PftFault → Type 0 = λ r. IfErr r (λ fault. IsFirstRow rows fault bytes) in
    subst P (sym (is ∙ ap (λ (x : PftFault). Err x) same)) h

pub none_both : (rows more : List PftFault) (bytes : List ℕ) → NoneOf rows bytes → NoneOf more bytes → NoneOf (rows ++ more) bytes
none_both [] more bytes none none_more = none_more
none_both (row ∷ rows) more bytes none none_more = (none.0, none_both rows more bytes none.1 none_more)

-- the fault of a code, where the rows before it don't hold
abbrev KIsWrong : Option Rs → Type 0
KIsWrong o = IsSomeAnd o (λ rs. (rs.k ≡ 0) ⊎ (207 < rs.k))

abbrev ZIsWrong : Option Rs → Type 0
ZIsWrong o = IsSomeAnd o (λ rs. rs.k ≤ rs.z)

pub code_first : (f : PftFault) (rs : Option Rs) (bytes : List ℕ) → NoneOf (Count ∷ Index ∷ PlenMismatch ∷ []) bytes → rs ≡ code bytes → JudgesCode (Err f) rs → IsFirstRow number_rows f bytes
code_first RsK rs bytes none is h =
    first_behind (Count ∷ Index ∷ PlenMismatch ∷ []) (RsK ∷ RsZ ∷ TooMany ∷ TooLarge ∷ Chunks ∷ []) RsK bytes none (inl (subst KIsWrong is h, refl))
code_first RsZ None bytes none is h = absurd h
code_first RsZ (Some rs) bytes none is h =
    let right : KIsWrong (Some rs) → ⊥ = λ row. elim row [ inl zero ↦ absurd (omega (arith, h.0, zero)) | inr more ↦ absurd (omega (arith, h.1, more)) ] in
    first_behind (Count ∷ Index ∷ PlenMismatch ∷ []) (RsK ∷ RsZ ∷ TooMany ∷ TooLarge ∷ Chunks ∷ []) RsZ bytes none (inr (λ row. right (subst KIsWrong (sym is) row), inl (subst ZIsWrong is h.2, refl)))
code_first Sync rs bytes none is h = absurd h
code_first HeadCut rs bytes none is h = absurd h
code_first HeadCrc rs bytes none is h = absurd h
code_first Count rs bytes none is h = absurd h
code_first Index rs bytes none is h = absurd h
code_first PlenMismatch rs bytes none is h = absurd h
code_first TooMany rs bytes none is h = absurd h
code_first TooLarge rs bytes none is h = absurd h
code_first Chunks rs bytes none is h = absurd h

-- a code that is judged well has neither
pub code_right : (rs : Option Rs) (bytes : List ℕ) → rs ≡ code bytes → JudgesCode (Ok tt) rs → NoneOf (RsK ∷ RsZ ∷ []) bytes
code_right None bytes is fine = (λ row. subst KIsWrong (sym is) row, (λ row. subst ZIsWrong (sym is) row, tt))
code_right (Some rs) bytes is fine =
    let k : KIsWrong (Some rs) → ⊥ = λ row. elim row [ inl zero ↦ absurd (omega (arith, fine.0, zero)) | inr more ↦ absurd (omega (arith, fine.1, more)) ] in
    let z : ZIsWrong (Some rs) → ⊥ = λ row. absurd (omega (arith, fine.2, row)) in
    (λ row. k (subst KIsWrong (sym is) row), (λ row. z (subst ZIsWrong (sym is) row), tt))

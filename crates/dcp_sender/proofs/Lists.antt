-- The first datagrams of a packet, and one more.
use Rattle.std.proofs.Common.{◌≡◌, ℕ, zero, suc, List, [], ◌∷◌, ◌++◌, length, Option, None, refl, sym, subst, ◌∙◌, inl, inr, arith, length-append}
use Rattle.std.proofs.lemmas.Bool.{cases_lt}
use Rattle.std.proofs.lemmas.List.{get_or_append_left, get_or_push}
use Rattle.dcp_pft.specs.declared.shape.Shape.{Shape}
use Rattle.dcp_sender.specs.Sending.{IsDatagramOf, AreFirst}

pub one_more : (cut : Option Shape) (seq i : ℕ) (packet : List ℕ) (datagrams : List (List ℕ)) (next : List ℕ)
    → AreFirst cut seq packet datagrams → length datagrams ≡ i → IsDatagramOf cut seq packet i next → AreFirst cut seq packet (datagrams ++ next ∷ [])
one_more cut seq i packet datagrams next each many is k none below = elim (cases_lt k i) [
  | inl before ↦
      let P : List ℕ → Type 0 = λ l. IsDatagramOf cut seq packet k l in
      subst P (sym (get_or_append_left datagrams (next ∷ []) none k (omega (arith, before, many)))) (each k none (omega (arith, before, many)))
  | inr last ↦
      let is_last : k ≡ i = omega (arith, below, last, many, length-append datagrams (next ∷ [])) in
      let P : List ℕ → Type 0 = λ l. IsDatagramOf cut seq packet k l in
      let Q : ℕ → Type 0 = λ j. IsDatagramOf cut seq packet j next in
      subst P (sym (get_or_push datagrams next none k (many ∙ sym is_last))) (subst Q (sym is_last) is)
]

-- a packet that is carried whole
pub itself : (seq : ℕ) (packet : List ℕ) → AreFirst None seq packet (packet ∷ [])
itself seq packet zero none below = refl
itself seq packet (suc i) none below = absurd (omega (arith, below))

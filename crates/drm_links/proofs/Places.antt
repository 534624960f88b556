-- Elements of a list by their places.
use Rattle.std.proofs.Common.{◌≡◌, ℕ, zero, suc, ◌+◌, ◌<◌, ◌⊎◌, inl, inr, List, [], ◌∷◌, ◌++◌, length, slice_index_or, sym, refl, ◌∙◌, ap, subst, arith}
use Rattle.std.proofs.lemmas.List.{get_or_append_left, get_or_push}

-- the element at a place, whatever stands in for one that isn't there
pub index_of : {X : Type 0} (xs : List X) (k : ℕ) → k < length xs → (x : X) × ((d : X) → slice_index_or xs k d ≡ x)
index_of [] k within = absurd (omega arith)
index_of (x ∷ xs) zero within = (x, λ d. refl)
index_of (x ∷ xs) (suc k) within = let more = index_of xs k (omega arith) in (more.0, more.1)

less_or_last : (k n : ℕ) → k < n + 1 → (k < n) ⊎ (k ≡ n)
less_or_last k n within = grind arith

-- what holds of each element by its place, and of one more
pub each_more : {X : Type 0} (P : ℕ → X → Type 0) (xs ys : List X) (x : X) (n : ℕ) → length xs ≡ n → ys ≡ xs ++ x ∷ []
    → ((k : ℕ) (d : X) → k < n → P k (slice_index_or xs k d)) → P n x → (k : ℕ) (d : X) → k < n + 1 → P k (slice_index_or ys k d)
each_more P xs ys x n size is each one k d within =
    elim (less_or_last k n within) [
      | inl less ↦ subst (λ y. P k y) (sym (ap (λ zs. slice_index_or zs k d) is ∙ get_or_append_left xs (x ∷ []) d k (omega (arith, size, less)))) (each k d less)
      | inr last ↦
          let at : slice_index_or ys k d ≡ x = ap (λ zs. slice_index_or zs k d) is ∙ get_or_push xs x d k (size ∙ sym last) in
          subst (λ y. P k y) (sym at) (subst (λ m. P m x) (sym last) one)
    ]

-- Facts that are computed at each number below a bound.
use Rattle.std.proofs.Common.{◌≡◌, ℕ, ◌<◌, zero, suc, Bool, true, ◌&&◌, subst, arith, inl, inr}
use Rattle.std.proofs.lemmas.Bool.{and_parts, cases_lt}

-- p at each number below n
abbrev pub each_below : ℕ → (ℕ → Bool) → Bool
each_below zero p = true
each_below (suc n) p = p n && each_below n p

pub each_at : (n : ℕ) (p : ℕ → Bool) → each_below n p ≡ true → (k : ℕ) → k < n → p k ≡ true
each_at zero p all k lt = absurd (omega arith)
each_at (suc n) p all k lt =
    let both = and_parts (p n) (each_below n p) all in
    elim (cases_lt k n) [
      | inl below ↦ each_at n p both.1 k below
      | inr above ↦ let e : n ≡ k = omega arith in subst (λ (j : ℕ). p j ≡ true) e both.0
    ]

-- An element of a list that is changed is one that is set.
use Rattle.std.proofs.Common.{◌≡◌, ℕ, ◌≤◌, ◌<◌, zero, suc, List, [], ◌∷◌, Some, length, refl, sym, ap, arith}
use Rattle.std.specs.Prelude.{slice_set, slice_index_or}
use Rattle.drm_plan.specs.Lookup.{at, changed}

pub set_is : {X : Type 0} (f : X → X) (k : ℕ) (xs : List X) (x : X) → k < length xs → x ≡ slice_index_or xs k x → slice_set xs k (f x) ≡ changed f k xs
set_is f k [] x lt is = absurd (omega (arith, lt))
set_is f zero (y ∷ xs) x lt is = ap (λ z. f z ∷ xs) is
set_is f (suc k) (y ∷ xs) x lt is = ap (λ l. y ∷ l) (set_is f k xs x (omega (arith, lt)) is)

pub past_is : {X : Type 0} (f : X → X) (k : ℕ) (xs : List X) → length xs ≤ k → changed f k xs ≡ xs
past_is f k [] le = refl
past_is f zero (y ∷ xs) le = absurd (omega (arith, le))
past_is f (suc k) (y ∷ xs) le = ap (λ l. y ∷ l) (past_is f k xs (omega (arith, le)))

pub at_is : {X : Type 0} (k : ℕ) (xs : List X) (x : X) → k < length xs → x ≡ slice_index_or xs k x → at k xs ≡ Some x
at_is k [] x lt is = absurd (omega (arith, lt))
at_is {X = X} zero (y ∷ xs) x lt is = ap (λ (z : X). Some z) (sym is)
at_is (suc k) (y ∷ xs) x lt is = at_is k xs x (omega (arith, lt)) is

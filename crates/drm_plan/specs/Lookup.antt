-- What stands in a list at a place.
use Rattle.std.specs.Prelude.{ℕ, zero, suc, List, [], ◌∷◌, Option, Some, None}

-- the element with this number, from 0, if there is one
abbrev pub at : {X : Type 0} → ℕ → List X → Option X
at k [] = None
at zero (x ∷ xs) = Some x
at (suc k) (x ∷ xs) = at k xs

-- the list with this element changed
abbrev pub changed : {X : Type 0} → (X → X) → ℕ → List X → List X
changed f k [] = []
changed f zero (x ∷ xs) = f x ∷ xs
changed f (suc k) (x ∷ xs) = x ∷ changed f k xs

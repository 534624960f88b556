-- Polynomials over the field, by their coefficients, the constant one first.
use Rattle.std.specs.Prelude.{ℕ, List, [], ◌∷◌, bit_xor}
use Rattle.gf_field.specs.Field.{times}

abbrev pub add : List ℕ → List ℕ → List ℕ
add [] q = q
add (a ∷ p) [] = a ∷ p
add (a ∷ p) (b ∷ q) = bit_xor a b ∷ add p q

abbrev pub scale : ℕ → List ℕ → List ℕ
scale a [] = []
scale a (b ∷ q) = times a b ∷ scale a q

abbrev pub mul : List ℕ → List ℕ → List ℕ
mul [] q = []
mul (a ∷ p) q = add (scale a q) (0 ∷ mul p q)

-- the value at x
abbrev pub value : ℕ → List ℕ → ℕ
value x [] = 0
value x (a ∷ p) = bit_xor a (times x (value x p))

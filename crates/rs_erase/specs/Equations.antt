-- The equations that the values at erased places solve.
use Rattle.std.specs.Prelude.{ℕ, ◌≡◌, ◌-◌, ◌^◌, ◌<◌, zero, suc, List, [], ◌∷◌, length, bit_xor, slice_index, slice_set}
use Rattle.gf_field.specs.Field.{power, times}
use Rattle.rs_erase.specs.Code.{AreElements}

-- x to the j
abbrev pub nth_power : ℕ → ℕ → ℕ
nth_power x zero = 1
nth_power x (suc j) = times x (nth_power x j)

-- the sum of each value times its locator to the j
abbrev pub power_sum : ℕ → List ℕ → List ℕ → ℕ
power_sum j [] vs = 0
power_sum j (x ∷ xs) [] = 0
power_sum j (x ∷ xs) (v ∷ vs) = bit_xor (times v (nth_power x j)) (power_sum j xs vs)

-- the syndromes without the part of the place with the locator x, one fewer: each but the first, added to the one before
-- it times x
abbrev pub remaining_syndromes : ℕ → List ℕ → List ℕ
remaining_syndromes x [] = []
remaining_syndromes x (a ∷ []) = []
remaining_syndromes x (a ∷ b ∷ s) = bit_xor b (times x a) ∷ remaining_syndromes x (b ∷ s)

-- the values from which they come: each value times the sum of its locator and y
abbrev pub remaining_values : ℕ → List ℕ → List ℕ → List ℕ
remaining_values y [] vs = []
remaining_values y (x ∷ xs) [] = []
remaining_values y (x ∷ xs) (v ∷ vs) = times v (bit_xor x y) ∷ remaining_values y xs vs

-- none of these is y
abbrev pub IsNoneOf : ℕ → List ℕ → Type 0
IsNoneOf y [] = Unit {0}
IsNoneOf y (x ∷ xs) = (x ≡ y → ⊥) × IsNoneOf y xs

-- elements that are not 0, no two the same
abbrev pub AreLocators : List ℕ → Type 0
AreLocators [] = Unit {0}
AreLocators (x ∷ xs) = (0 < x) × (x < 2 ^ 8) × IsNoneOf x xs × AreLocators xs

-- the syndromes are the power sums from the j-th on
abbrev pub SumsFrom : ℕ → List ℕ → List ℕ → List ℕ → Type 0
SumsFrom j xs vs [] = Unit {0}
SumsFrom j xs vs (a ∷ s) = (a ≡ power_sum j xs vs) × SumsFrom (suc j) xs vs s

-- values at the places with the locators xs, from which the syndromes s come
pub record ValuesSolve (xs vs s : List ℕ) : Type 0 where
  pub one_each : length vs ≡ length xs
  pub elements : AreElements vs
  pub sums : SumsFrom 1 xs vs s

-- the locator of each place
abbrev pub locators_of : List ℕ → List ℕ
locators_of [] = []
locators_of (e ∷ es) = power (254 - e) ∷ locators_of es

-- the word with each value added at its place
abbrev pub word_with : List ℕ → List ℕ → List ℕ → List ℕ
word_with [] vs w = w
word_with (e ∷ es) [] w = w
word_with (e ∷ es) (v ∷ vs) w = word_with es vs (slice_set w e (bit_xor (slice_index w e) v))

-- the value of a word at x, from its first element on
abbrev pub word_value : ℕ → List ℕ → ℕ
word_value x [] = 0
word_value x (a ∷ w) = bit_xor (word_value x w) (times a (nth_power x (length w)))

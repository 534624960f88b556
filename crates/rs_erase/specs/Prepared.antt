-- What is prepared of erased places alone: products of sums of locators, and weights.
use Rattle.std.specs.Prelude.{ℕ, ◌≡◌, ◌+◌, ◌-◌, ◌*◌, ◌<◌, ◌≤◌, zero, suc, List, [], ◌∷◌, length, bit_xor, slice_index}
use Rattle.gf_field.specs.Field.{power, times}

-- all but the j-th
abbrev pub without : ℕ → List ℕ → List ℕ
without j [] = []
without zero (x ∷ xs) = xs
without (suc j) (x ∷ xs) = x ∷ without j xs

-- the product of the sums of y and each of these
abbrev pub sums_product : ℕ → List ℕ → ℕ
sums_product y [] = 1
sums_product y (x ∷ xs) = times (bit_xor y x) (sums_product y xs)

-- what the value at the j-th place comes to in the first syndrome once all other places are removed
abbrev pub scale_of : List ℕ → ℕ → ℕ
scale_of xs j = times (slice_index xs j) (sums_product (slice_index xs j) (without j xs))

-- so many elements, the first one c, and each y times the one before it
unfoldable pub geometric : ℕ → ℕ → ℕ → List ℕ
geometric c y zero = []
geometric c y (suc n) = c ∷ geometric (times c y) y n

-- the syndromes of the word that has a 1 at the p-th place of its parity, and zeros
abbrev pub syndromes_of_symbol : ℕ → List ℕ
syndromes_of_symbol p = geometric (power (47 - p)) (power (47 - p)) 48

-- each weight makes 1 of what the value at its place comes to
abbrev pub AreWeights : List ℕ → List ℕ → Type 0
AreWeights xs weights = (j : ℕ) → j < length xs → times (slice_index weights j) (scale_of xs j) ≡ 1

-- Bits in hex.
use Rattle.std.specs.Prelude.{ℕ, Bool, List, [], ◌∷◌, slice_index}
use Rattle.hex.specs.Hex.{lower_digits}
use Rattle.drm_bits.specs.Bits.{value}

-- a digit for each four bits
abbrev pub hex_of_bits : List Bool → List ℕ
hex_of_bits (a ∷ b ∷ c ∷ d ∷ bits) = slice_index lower_digits (value (a ∷ b ∷ c ∷ d ∷ [])) ∷ hex_of_bits bits
hex_of_bits bits = []

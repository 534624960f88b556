-- Check values (ES 201 980, TS 102 821), by multiples of a polynomial over bits.
-- A polynomial is the list of its coefficients, the highest power first.
use Rattle.std.specs.Prelude.{ℕ, ◌≡◌, ◌+◌, ◌-◌, ◌<◌, ◌^◌, Bool, true, false, not, List, [], ◌∷◌, ◌++◌, length, map, replicate}
use Rattle.drm_bits.specs.Bits.{digits, bits_of}

-- the sum of two coefficients
abbrev pub plus : Bool → Bool → Bool
plus true b = not b
plus false b = b

-- the sum of two polynomials with as many coefficients
abbrev pub sum : List Bool → List Bool → List Bool
sum [] q = []
sum (a ∷ p) [] = []
sum (a ∷ p) (b ∷ q) = plus a b ∷ sum p q

-- n coefficients 0
abbrev pub zeros : ℕ → List Bool
zeros n = replicate n false

-- a coefficient times a polynomial
abbrev pub times : Bool → List Bool → List Bool
times true g = g
times false g = zeros (length g)

-- the product of two polynomials; g isn't empty
abbrev pub product : List Bool → List Bool → List Bool
product [] g = zeros (length g - 1)
product (a ∷ p) g = sum (times a g ++ zeros (length p)) (false ∷ product p g)

-- p is a multiple of g
abbrev pub IsMultiple : List Bool → List Bool → Type 0
IsMultiple g p = (q : List Bool) × (p ≡ product q g)

-- each digit turned over
abbrev pub complement : List Bool → List Bool
complement bits = map not bits

-- the bits and then w zeros, with the first w of all these digits turned over
abbrev pub prepared : ℕ → List Bool → List Bool
prepared w bits = sum (bits ++ zeros w) (replicate w true ++ zeros (length bits))

-- The check value of the bits: the complement of the digits, one fewer than g has, that make the prepared bits a
-- multiple of g when they are added at the end.
pub record IsCheck (g bits check : List Bool) : Type 0 where
  pub width : length g ≡ length check + 1
  pub multiple : IsMultiple g (sum (prepared (length check) bits) (zeros (length bits) ++ complement check))

-- x^8 + x^4 + x^3 + x^2 + 1, of the Fast Access Channel (ES 201 980)
abbrev pub crc8_polynomial : List Bool
crc8_polynomial = true ∷ false ∷ false ∷ false ∷ true ∷ true ∷ true ∷ false ∷ true ∷ []

-- x^16 + x^12 + x^5 + 1, of the Service Description Channel (ES 201 980), of AF packets and of PFT headers (TS 102 821)
abbrev pub crc16_polynomial : List Bool
crc16_polynomial =
    true ∷ false ∷ false ∷ false ∷ true ∷ false ∷ false ∷ false ∷ false ∷ false ∷ false ∷ true ∷ false ∷ false ∷ false ∷ false ∷ true ∷ []

-- the number is the check value of sixteen bits of these bytes
pub record IsCheckOf (bytes : List ℕ) (check : ℕ) : Type 0 where
  pub narrow : check < 2 ^ 16
  pub is : IsCheck crc16_polynomial (bits_of bytes) (digits 16 check)

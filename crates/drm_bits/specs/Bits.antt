-- Bits: lists of digits, the greatest first, as in the formats of ES 201 980, TS 102 820 and TS 102 821.
use Rattle.std.specs.Prelude.{ℕ, zero, suc, ◌+◌, ◌*◌, ◌/◌, ◌%◌, ◌^◌, ◌==◌, ◌<◌, Bool, List, [], ◌∷◌, ◌++◌, length, take, slice_index}
use Rattle.std.specs.Int.{from_bool}

-- the number that the digits stand for, as a sum of powers of two
abbrev pub value : List Bool → ℕ
value [] = 0
value (b ∷ bs) = from_bool b * 2 ^ length bs + value bs

-- the number of the first w bits, and the first bit
abbrev pub front : ℕ → List Bool → ℕ
front w bits = value (take w bits)

abbrev pub bit : List Bool → Bool
bit bits = front 1 bits == 1

-- the w digits of a number below 2 ^ w
unfoldable pub digits : ℕ → ℕ → List Bool
digits zero n = []
digits (suc w) n = (n / 2 ^ w % 2 == 1) ∷ digits w n

-- eight digits for each byte
abbrev pub bits_of : List ℕ → List Bool
bits_of [] = []
bits_of (b ∷ bytes) = digits 8 b ++ bits_of bytes

-- each of the numbers is a byte
abbrev pub IsBytes : List ℕ → Type 0
IsBytes bytes = (k : ℕ) → slice_index bytes k < 2 ^ 8

-- Numbers and their digits are one for one.
use Rattle.std.specs.Prelude.{ℕ, ◌≡◌, ◌<◌, ◌^◌, Bool, List, length}
use Rattle.drm_bits.specs.Bits.{value, digits}

-- the w digits of a number below 2 ^ w stand for it
abbrev pub DigitsStandForNumbers : Type 0
DigitsStandForNumbers = (w n : ℕ) → n < 2 ^ w → value (digits w n) ≡ n

-- digits are those of the number that they stand for, which is below 2 to the power of how many they are
abbrev pub NumbersHaveTheirDigits : Type 0
NumbersHaveTheirDigits = (bits : List Bool) → (value bits < 2 ^ length bits) × (digits (length bits) (value bits) ≡ bits)

-- Formats that are a table of fields: numbers in so many bits each, one after another.
use Rattle.std.specs.Prelude.{ℕ, ◌≡◌, ◌≤◌, ◌<◌, ◌^◌, Bool, List, [], ◌∷◌, ◌++◌, length, take, drop}
use Rattle.std.specs.Int.{from_bool}
use Rattle.drm_bits.specs.Bits.{value, digits}

-- a field: its number of bits, and its number
pub record BitField : Type 0 where
  pub width : ℕ
  pub number : ℕ

abbrev pub field : ℕ → ℕ → BitField
field width number = record { width = width; number = number }

-- a field of one bit
abbrev pub flag : Bool → BitField
flag b = field 1 (from_bool b)

-- the bits are those of the fields: the first of them stand for the first field's number, and so on to the end
abbrev pub AreFields : List BitField → List Bool → Type 0
AreFields [] bits = bits ≡ []
AreFields (f ∷ fields) bits = (f.width ≤ length bits) × (value (take f.width bits) ≡ f.number) × AreFields fields (drop f.width bits)

-- old begins with the bits of these fields, and new is what comes after them
abbrev pub BeginsWith : List BitField → List Bool → List Bool → Type 0
BeginsWith [] old new = new ≡ old
BeginsWith (f ∷ fields) old new = (f.width ≤ length old) × (value (take f.width old) ≡ f.number) × BeginsWith fields (drop f.width old) new

-- each number fits its width
abbrev pub AllFit : List BitField → Type 0
AllFit [] = Unit {0}
AllFit (f ∷ fields) = (f.number < 2 ^ f.width) × AllFit fields

-- the digits of the fields, one after another
abbrev pub spelled : List BitField → List Bool
spelled [] = []
spelled (f ∷ fields) = digits f.width f.number ++ spelled fields

-- Fields that were read from bits, and bits that have these fields.
use Rattle.std.proofs.Common.{◌≡◌, ℕ, zero, suc, ◌+◌, ◌*◌, ◌<◌, ◌≤◌, ◌^◌, nat_eq, Bool, true, false, List, [], ◌∷◌, ◌++◌, length, take, drop, get_or, refl, sym, ◌∙◌, ap, subst, arith, length-append, length-drop}
use Rattle.std.proofs.lemmas.List.{take_at, drop_at, length-take-le}
use Rattle.std.specs.Int.{from_bool}
use Rattle.drm_bits.specs.Bits.{value, digits, bits_of}
use Rattle.drm_bits.specs.Fields.{BitField, field, flag, AreFields, AllFit, spelled}
use Rattle.drm_bits.proofs.BitsLemmas.{length-digits, length-bits_of, value-below}
use Rattle.drm_bits.proofs.DigitsLemmas.{value-digits}
use Rattle.drm_sdc.specs.Bodies.{octets}
use Rattle.drm_bits.specs.Bits.{front, bit}

abbrev pub AreBytes : List ℕ → Type 0
AreBytes bytes = (i : ℕ) → get_or bytes i 0 < 2 ^ 8

-- what bits have, fits
pub fields_fit : (fields : List BitField) (bits : List Bool) → AreFields fields bits → AllFit fields
fields_fit [] bits are = tt
fields_fit (f ∷ fields) bits are =
    let size : length (take f.width bits) ≡ f.width = length-take-le f.width bits are.0 in
    let below : value (take f.width bits) < 2 ^ length (take f.width bits) = value-below (take f.width bits) in
    (rw (are.1, size) at below, fields_fit fields (drop f.width bits) are.2)

-- how many bits fields have
abbrev pub widths : List BitField → ℕ
widths [] = 0
widths (f ∷ fields) = f.width + widths fields

pub length-fields : (fields : List BitField) (bits : List Bool) → AreFields fields bits → length bits ≡ widths fields
length-fields [] bits are = ap length are
length-fields (f ∷ fields) bits are =
    let rest : length (drop f.width bits) ≡ widths fields = length-fields fields (drop f.width bits) are.2 in
    omega (arith, are.0, rest, length-drop f.width bits)

pub length-spelled : (fields : List BitField) → length (spelled fields) ≡ widths fields
length-spelled [] = refl
length-spelled (f ∷ fields) =
    omega (arith, length-append (digits f.width f.number) (spelled fields), length-digits f.width f.number, length-spelled fields)

pub widths-append : (fields others : List BitField) → widths (fields ++ others) ≡ widths fields + widths others
widths-append [] others = omega arith
widths-append (f ∷ fields) others = omega (arith, widths-append fields others)

pub widths-octets : (bytes : List ℕ) → widths (octets bytes) ≡ 8 * length bytes
widths-octets [] = refl
widths-octets (b ∷ bytes) = omega (arith, widths-octets bytes)

-- one field, and those behind it
pub have_number : (w : ℕ) (fields : List BitField) (bits : List Bool) → w ≤ length bits → AreFields fields (drop w bits) → AreFields (field w (front w bits) ∷ fields) bits
have_number w fields bits within are = (within, refl, are)

bit_again : (n : ℕ) → n < 2 → n ≡ from_bool (nat_eq n 1)
bit_again zero below = refl
bit_again (suc zero) below = refl
bit_again (suc (suc n)) below = absurd (omega (arith, below))

pub front-bit : (bits : List Bool) → 1 ≤ length bits → front 1 bits ≡ from_bool (bit bits)
front-bit bits within =
    let size : length (take 1 bits) ≡ 1 = length-take-le 1 bits within in
    let below : value (take 1 bits) < 2 ^ length (take 1 bits) = value-below (take 1 bits) in
    let small : value (take 1 bits) < 2 = rw size at below in
    bit_again (value (take 1 bits)) small

pub have_flag : (fields : List BitField) (bits : List Bool) → 1 ≤ length bits → AreFields fields (drop 1 bits) → AreFields (flag (bit bits) ∷ fields) bits
have_flag fields bits within are = (within, front-bit bits within, are)

flag_of : (b : Bool) → nat_eq (from_bool b) 1 ≡ b
flag_of true = refl
flag_of false = refl

-- the flag that a bit is
pub flag_again : (b : Bool) (bits : List Bool) → front 1 bits ≡ from_bool b → b ≡ bit bits
flag_again b bits is = sym (ap (λ n. nat_eq n 1) is ∙ flag_of b)

-- bytes are their own fields, and no others
pub octets_are : (bytes : List ℕ) → AreBytes bytes → AreFields (octets bytes) (bits_of bytes)
octets_are [] small = refl
octets_are (b ∷ bytes) small =
    let size : length (digits 8 b) ≡ 8 = length-digits 8 b in (
      omega (arith, length-append (digits 8 b) (bits_of bytes), size),
      ap value (take_at (digits 8 b) (bits_of bytes) 8 size) ∙ value-digits 8 b (small 0),
      subst (AreFields (octets bytes)) (sym (drop_at (digits 8 b) (bits_of bytes) 8 size)) (octets_are bytes (λ i. small (suc i))),
    )

pub octets_again : (bytes others : List ℕ) → AreBytes others → AreFields (octets bytes) (bits_of others) → bytes ≡ others
octets_again [] [] small are = refl
octets_again [] (y ∷ others) small are = absurd (omega (arith, ap length are, length-bits_of (y ∷ others)))
octets_again (x ∷ bytes) [] small are = absurd (omega (arith, are.0))
octets_again (x ∷ bytes) (y ∷ others) small are =
    let size : length (digits 8 y) ≡ 8 = length-digits 8 y in
    let first : x ≡ y = sym are.1 ∙ (ap value (take_at (digits 8 y) (bits_of others) 8 size) ∙ value-digits 8 y (small 0)) in
    let rest : bytes ≡ others = octets_again bytes others (λ i. small (suc i)) (subst (AreFields (octets bytes)) (drop_at (digits 8 y) (bits_of others) 8 size) are.2) in
    cc

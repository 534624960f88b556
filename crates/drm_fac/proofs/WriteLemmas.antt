-- How many bits fields have.
use Rattle.std.proofs.Common.{◌≡◌, ℕ, List, [], ◌∷◌, ◌+◌, length, refl, arith, length-append}
use Rattle.drm_bits.specs.Bits.{digits}
use Rattle.drm_bits.specs.Fields.{BitField, spelled}
use Rattle.drm_bits.proofs.BitsLemmas.{length-digits}

-- the number of bits of fields
abbrev pub widths : List BitField → ℕ
widths [] = 0
widths (f ∷ fields) = f.width + widths fields

pub length-spelled : (fields : List BitField) → length (spelled fields) ≡ widths fields
length-spelled [] = refl
length-spelled (f ∷ fields) = omega (arith, length-append (digits f.width f.number) (spelled fields), length-digits f.width f.number, length-spelled fields)

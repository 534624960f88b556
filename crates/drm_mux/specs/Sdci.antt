-- The value of an `sdci` item (TS 102 820).
use Rattle.std.specs.Prelude.{ℕ, ◌≡◌, ◌+◌, ◌*◌, ◌≤◌, List, ◌∷◌, take}
use Rattle.drm_bits.specs.Bits.{value, bits_of}
use Rattle.drm_bits.specs.Fields.{BitField, field, AreFields}
use Rattle.drm_bits.specs.Description.{IsDescription, description_fields}
use Rattle.drm_bits.specs.declared.description.MuxDesc.{MuxDesc}

-- four zero bits, and the fields of the description
abbrev pub sdci_fields : MuxDesc → List BitField
sdci_fields d = field 4 0 ∷ description_fields d

-- The bytes are the value for this description.
pub record IsSdci (d : MuxDesc) (bytes : List ℕ) : Type 0 where
  pub description : IsDescription d
  pub fields : AreFields (sdci_fields d) (bits_of bytes)

-- so many bits are the first byte, and three bytes for each of at most four streams
abbrev pub IsSdciLength : ℕ → Type 0
IsSdciLength bits = (n : ℕ) × (n ≤ 4) × (bits ≡ 8 + 24 * n)

-- the first four bits are 0
abbrev pub HasZeroFront : List ℕ → Type 0
HasZeroFront bytes = value (take 4 (bits_of bytes)) ≡ 0

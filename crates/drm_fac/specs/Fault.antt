-- Why nine bytes are no FAC.
use Rattle.std.specs.Prelude.{ℕ, ◌≡◌, ◌≢◌, ◌<◌, ◌^◌, List, length, take, slice_index}
use Rattle.drm_bits.specs.Bits.{digits, bits_of, IsBytes}
use Rattle.drm_bits.specs.Crc.{IsCheck, crc8_polynomial}
use Rattle.drm_fac.specs.declared.fac.FacFault.{FacFault}
use Rattle.drm_fac.specs.declared.fac.FacFault.TheVariants.{Crc}

-- nine bytes whose last one stands where the check value of the eight before it, another number, should
pub record IsCrcFault (bytes : List ℕ) (stands computed : ℕ) : Type 0 where
  pub nine : length bytes ≡ 9
  pub all_bytes : IsBytes bytes
  pub last : stands ≡ slice_index bytes 8
  pub differ : stands ≢ computed
  pub byte : computed < 2 ^ 8
  pub check : IsCheck crc8_polynomial (bits_of (take 8 bytes)) (digits 8 computed)

abbrev pub IsFault : List ℕ → FacFault → Type 0
IsFault bytes (Crc stands computed) = IsCrcFault bytes stands computed

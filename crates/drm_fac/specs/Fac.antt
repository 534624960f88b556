-- The Fast Access Channel: its fields, and the nine bytes that they are (ES 201 980, "Fast Access Channel").
use Rattle.std.specs.Prelude.{ℕ, ◌≡◌, List, [], ◌∷◌, ◌++◌, length, take, slice_index}
use Rattle.drm_bits.specs.Bits.{digits, bits_of, IsBytes}
use Rattle.drm_bits.specs.Crc.{IsCheck, crc8_polynomial}
use Rattle.drm_bits.specs.Fields.{BitField, field, flag, AreFields, AllFit}
use Rattle.drm_fac.specs.declared.channel.Channel.{Channel}
use Rattle.drm_fac.specs.declared.service.Service.{Service}
use Rattle.drm_fac.specs.declared.fac.Fac.{Fac}

-- the channel parameters, 20 bits
abbrev pub channel_fields : Channel → List BitField
channel_fields c =
    flag c.enhancement ∷ field 2 c.identity ∷ field 4 c.occupancy ∷ flag c.short_depth ∷ field 2 c.msc ∷ flag c.qam4
    ∷ field 4 c.services ∷ field 3 c.index ∷ field 2 c.last ∷ []

-- the service parameters, 44 bits
abbrev pub service_fields : Service → List BitField
service_fields s =
    field 24 s.id ∷ field 2 s.short ∷ flag s.ca ∷ field 4 s.language ∷ flag s.is_data ∷ field 5 s.descriptor
    ∷ flag s.data_ca ∷ field 6 s.last ∷ []

abbrev pub fac_fields : Fac → List BitField
fac_fields fac = channel_fields fac.channel ++ service_fields fac.service

-- each field of the FAC fits its width
abbrev pub FacFits : Fac → Type 0
FacFits fac = AllFit (fac_fields fac)

-- The nine bytes of a FAC: its fields, and the check value of these eight bytes.
pub record IsFac (fac : Fac) (bytes : List ℕ) : Type 0 where
  pub nine : length bytes ≡ 9
  pub all_bytes : IsBytes bytes
  pub fields : AreFields (fac_fields fac) (bits_of (take 8 bytes))
  pub check : IsCheck crc8_polynomial (bits_of (take 8 bytes)) (digits 8 (slice_index bytes 8))

-- The line of a FAC.
use Rattle.std.specs.Prelude.{ℕ, List, [], ◌∷◌, drop, codes, decimal, Bool, Option, None, Some, if◌then◌else◌}
use Rattle.std.specs.List.{concat}
use Rattle.std.specs.Int.{from_bool, to_be_bytes, w32}
use Rattle.hex.specs.Hex.{encode_lower}
use Rattle.drm_fac.specs.declared.fac.Fac.{Fac}
use Rattle.drm_fac.specs.Services.{counts_of}

abbrev pub flag : Bool → List ℕ
flag b = decimal (from_bool b)

-- the numbers of audio and data services, or the reserved code
abbrev pub services_text : ℕ → Option (ℕ × ℕ) → List ℕ
services_text code None = concat (codes "reserved " ∷ decimal code ∷ [])
services_text code (Some counts) = concat (decimal counts.0 ∷ codes "+" ∷ decimal counts.1 ∷ [])

-- a service's identifier in six digits
unfoldable pub id_digits : ℕ → List ℕ
id_digits id = encode_lower (drop 1 (to_be_bytes w32 id))

-- the line of a FAC
abbrev pub fac_line : Fac → List ℕ
fac_line fac =
    let c = fac.channel in
    let s = fac.service in
    concat (
    codes "base " ∷ flag c.enhancement ∷ codes " identity " ∷ decimal c.identity
    ∷ codes " occupancy " ∷ decimal c.occupancy ∷ codes " depth " ∷ (if c.short_depth then codes "short" else codes "long")
    ∷ codes " msc " ∷ decimal c.msc ∷ codes " sdc " ∷ flag c.qam4
    ∷ codes " services " ∷ services_text c.services (counts_of c.services)
    ∷ codes " index " ∷ decimal c.index ∷ codes " last " ∷ decimal c.last
    ∷ codes " id " ∷ id_digits s.id ∷ codes " short " ∷ decimal s.short
    ∷ codes " ca " ∷ flag s.ca ∷ codes " language " ∷ decimal s.language
    ∷ codes " kind " ∷ (if s.is_data then codes "data" else codes "audio") ∷ codes " descriptor " ∷ decimal s.descriptor
    ∷ codes " dca " ∷ flag s.data_ca ∷ codes " last " ∷ decimal s.last ∷ codes "\n" ∷ [])

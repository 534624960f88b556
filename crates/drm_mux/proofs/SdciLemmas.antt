-- The value of an `sdci` item as a whole: how it is spelled, and that it has one description.
use Rattle.std.proofs.Common.{◌≡◌, ℕ, ◌+◌, ◌*◌, Bool, List, length, drop, sym, ◌∙◌, ap, arith, length-append}
use Rattle.drm_bits.specs.Bits.{digits, bits_of}
use Rattle.drm_bits.specs.Fields.{AllFit, spelled}
use Rattle.drm_bits.specs.Description.{IsDescription, FitsWidths, description_fields, description_from}
use Rattle.drm_bits.specs.declared.description.MuxDesc.{MuxDesc}
use Rattle.drm_bits.proofs.BitsLemmas.{length-digits, length-bits_of}
use Rattle.drm_bits.proofs.FieldLemmas.{spelled_fields}
use Rattle.drm_bits.proofs.PartLemmas.{description_again, description_fit, length-description}
use Rattle.drm_mux.specs.Sdci.{sdci_fields, IsSdci}

pub sdci_fit : (d : MuxDesc) → IsDescription d → FitsWidths d → AllFit (sdci_fields d)
sdci_fit d is fits = (omega arith, description_fit d is fits)

pub length-sdci : (d : MuxDesc) → IsDescription d → length (spelled (sdci_fields d)) ≡ 8 * (1 + 3 * d.count)
length-sdci d is = omega (arith, length-append (digits 4 0) (spelled (description_fields d)), length-digits 4 0, length-description d is)

-- the length of a value
pub length-value : (d : MuxDesc) (bytes : List ℕ) → IsSdci d bytes → 8 * length bytes ≡ 8 + 24 * d.count
length-value d bytes is =
    omega (arith, length-bits_of bytes, ap length (spelled_fields (sdci_fields d) (bits_of bytes) is.fields), length-sdci d is.description)

-- bytes are the value for one description
pub one_description : (d e : MuxDesc) (bytes : List ℕ) → IsSdci d bytes → IsSdci e bytes → d ≡ e
one_description d e bytes is_d is_e =
    let count : d.count ≡ e.count = omega (arith, length-value d bytes is_d, length-value e bytes is_e) in
    let bits : List Bool = drop 4 (bits_of bytes) in
    description_again d bits is_d.description is_d.fields.2
    ∙ (ap (λ n. description_from n bits) count ∙ sym (description_again e bits is_e.description is_e.fields.2))

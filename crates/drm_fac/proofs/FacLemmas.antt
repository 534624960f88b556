-- Nine bytes are at most one FAC, and have at most one fault.
use Rattle.std.proofs.Common.{◌≡◌, ℕ, Bool, true, false, List, take, refl, sym, ◌∙◌, ap, nat_eq, get_or, map, slice_index}
use Rattle.std.specs.Int.{from_bool}
use Rattle.drm_bits.specs.Bits.{bits_of}
use Rattle.drm_bits.specs.Crc.{crc8_polynomial}
use Rattle.drm_bits.specs.Fields.{BitField}
use Rattle.drm_bits.proofs.Checks.{IsCheck-unique, crc8_low}
use Rattle.drm_bits.proofs.FieldLemmas.{same_fields, fields_fit}
use Rattle.drm_fac.specs.declared.fac.Fac.{Fac}
use Rattle.drm_fac.specs.declared.fac.FacFault.{FacFault}
use Rattle.drm_fac.specs.declared.fac.FacFault.TheVariants.{Crc}
use Rattle.drm_fac.specs.Fac.{fac_fields, IsFac, FacFits}
use Rattle.drm_fac.specs.Fault.{IsFault, IsCrcFault}

is_set : (b : Bool) → nat_eq (from_bool b) 1 ≡ b
is_set true = refl
is_set false = refl

-- the FAC with these numbers in its fields
abbrev fac_from : List ℕ → Fac
fac_from ns = record {
  channel = record {
    enhancement = nat_eq (get_or ns 0 0) 1;
    identity = get_or ns 1 0;
    occupancy = get_or ns 2 0;
    short_depth = nat_eq (get_or ns 3 0) 1;
    msc = get_or ns 4 0;
    qam4 = nat_eq (get_or ns 5 0) 1;
    services = get_or ns 6 0;
    index = get_or ns 7 0;
    last = get_or ns 8 0;
  };
  service = record {
    id = get_or ns 9 0;
    short = get_or ns 10 0;
    ca = nat_eq (get_or ns 11 0) 1;
    language = get_or ns 12 0;
    is_data = nat_eq (get_or ns 13 0) 1;
    descriptor = get_or ns 14 0;
    data_ca = nat_eq (get_or ns 15 0) 1;
    last = get_or ns 16 0;
  };
}

fac_again : (f : Fac) → f ≡ fac_from (map (λ (x : BitField). x.number) (fac_fields f))
fac_again f =
    rw (is_set f.channel.enhancement, is_set f.channel.short_depth, is_set f.channel.qam4, is_set f.service.ca, is_set f.service.is_data, is_set f.service.data_ca) refl

-- a FAC is known by its fields
pub same_fac : (f g : Fac) → fac_fields f ≡ fac_fields g → f ≡ g
same_fac f g same = fac_again f ∙ (ap (λ fs. fac_from (map (λ (x : BitField). x.number) fs)) same ∙ sym (fac_again g))

-- nine bytes are at most one FAC
pub one_fac : (f g : Fac) (bytes : List ℕ) → IsFac f bytes → IsFac g bytes → f ≡ g
one_fac f g bytes is_f is_g = same_fac f g (same_fields (fac_fields f) (fac_fields g) (bits_of (take 8 bytes)) refl is_f.fields is_g.fields)

-- the fields of nine bytes fit
pub fac_fits : (fac : Fac) (bytes : List ℕ) → IsFac fac bytes → FacFits fac
fac_fits fac bytes is = fields_fit (fac_fields fac) (bits_of (take 8 bytes)) is.fields

-- nine bytes have at most one fault
pub same_fault : (stands computed stands' computed' : ℕ) (bytes : List ℕ) → IsCrcFault bytes stands computed → IsCrcFault bytes stands' computed' → (stands ≡ stands') × (computed ≡ computed')
same_fault stands computed stands' computed' bytes is is' = (
  is.last ∙ sym is'.last,
  IsCheck-unique 8 29 crc8_polynomial (bits_of (take 8 bytes)) computed computed' crc8_low is.byte is'.byte is.check is'.check,
)

pub one_fault : (first second : FacFault) (bytes : List ℕ) → IsFault bytes first → IsFault bytes second → first ≡ second
one_fault (Crc stands computed) (Crc stands' computed') bytes is is' = let same = same_fault stands computed stands' computed' bytes is is' in cc

-- a FAC has no fault
pub fac_or_fault : (fac : Fac) (fault : FacFault) (bytes : List ℕ) → IsFac fac bytes → IsFault bytes fault → ⊥
fac_or_fault fac (Crc stands computed) bytes is fault =
    fault.differ (fault.last ∙ IsCheck-unique 8 29 crc8_polynomial (bits_of (take 8 bytes)) (slice_index bytes 8) computed crc8_low (is.all_bytes 8) fault.byte is.check fault.check)

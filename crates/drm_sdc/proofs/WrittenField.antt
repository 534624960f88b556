-- Entities that were written one behind another are a field.
use Rattle.std.proofs.Common.{◌≡◌, ℕ, zero, suc, ◌+◌, ◌*◌, ◌<◌, ◌≤◌, ◌^◌, List, [], ◌∷◌, ◌++◌, Bool, length, take, drop, get_or, replicate, refl, sym, ◌∙◌, ap, subst, arith, append_assoc, length-append, length-drop, inl, inr}
use Rattle.std.proofs.lemmas.List.{take_at, drop_at, length-replicate}
use Rattle.std.specs.Prelude.{All}
use Rattle.drm_bits.specs.Bits.{digits, bits_of}
use Rattle.drm_bits.specs.Fields.{AreFields, spelled}
use Rattle.drm_bits.specs.Crc.{zeros}
use Rattle.drm_bits.proofs.BitsLemmas.{length-bits_of, length-digits}
use Rattle.drm_sdc.specs.Block.{first_form, IsBlockChecked, IsBlock}
use Rattle.drm_bits.proofs.Checks.{bits_of-append}
use Rattle.drm_sdc.proofs.BlockLaws.{length-form}
use Rattle.drm_bits.proofs.ByteBits.{bits_of-take, bits_of-drop, same_bytes}
use Rattle.drm_bits.proofs.FieldLemmas.{fields_spelled}
use Rattle.drm_sdc.specs.declared.entity.Entity.{Entity}
use Rattle.drm_sdc.specs.Entity.{EntityFits, entity_fields, entity_size}
use Rattle.drm_sdc.specs.Field.{IsTail, IsField}
use Rattle.drm_sdc.specs.Writing.{entity_bits, total_size}
use Rattle.drm_sdc.proofs.FieldLaws.{AreBytes, length-spelled}
use Rattle.drm_sdc.proofs.EntityLaws.{widths-entity, small_rest, size_within}
use Rattle.drm_bits.proofs.WroteLemmas.{each}

zero_bytes : (n : ℕ) → AreBytes (replicate n 0)
zero_bytes zero i = omega arith
zero_bytes (suc n) zero = omega arith
zero_bytes (suc n) (suc i) = zero_bytes n i

zeros_tail : (n : ℕ) → IsTail (replicate n 0)
zeros_tail zero = inl (omega arith)
zeros_tail (suc zero) = inl (omega arith)
zeros_tail (suc (suc n)) = inr (refl, refl)

pub field_is : (es : List Entity) (n : ℕ) (bytes : List ℕ) → AreBytes bytes → All EntityFits es → bits_of bytes ≡ entity_bits es ++ bits_of (replicate n 0) → IsField es (replicate n 0) bytes
field_is [] n bytes small all is = (same_bytes bytes (replicate n 0) small (zero_bytes n) is, zeros_tail n)
field_is (e ∷ es) n bytes small all is =
    let fits : EntityFits e = all 0 e (omega arith) in
    let size : length (spelled (entity_fields e)) ≡ 8 * entity_size e = length-spelled (entity_fields e) ∙ widths-entity e fits.body in
    let behind : List Bool = entity_bits es ++ bits_of (replicate n 0) in
    let whole : bits_of bytes ≡ spelled (entity_fields e) ++ behind = is ∙ append_assoc (spelled (entity_fields e)) (entity_bits es) (bits_of (replicate n 0)) in
    let front : bits_of (take (entity_size e) bytes) ≡ spelled (entity_fields e) =
    bits_of-take (entity_size e) bytes ∙ (ap (take (8 * entity_size e)) whole ∙ take_at (spelled (entity_fields e)) behind (8 * entity_size e) size) in
    let rest : bits_of (drop (entity_size e) bytes) ≡ behind =
    bits_of-drop (entity_size e) bytes ∙ (ap (drop (8 * entity_size e)) whole ∙ drop_at (spelled (entity_fields e)) behind (8 * entity_size e) size) in
    let are : AreFields (entity_fields e) (bits_of (take (entity_size e) bytes)) = subst (AreFields (entity_fields e)) (sym front) (fields_spelled (entity_fields e) fits.fields) in
    (record { fits = fits; fields = are }, field_is es n (drop (entity_size e) bytes) (small_rest bytes (entity_size e) small) (λ k d within. all (suc k) d (omega (arith, within))) rest)

abbrev pub bits_of_entity : Entity → List Bool
bits_of_entity e = spelled (entity_fields e)

pub entities_each : (es : List Entity) → each bits_of_entity es ≡ entity_bits es
entities_each [] = refl
entities_each (e ∷ es) = ap (λ l. spelled (entity_fields e) ++ l) (entities_each es)

-- the size of the first entities, and one more
size_next : (es : List Entity) (i : ℕ) (d : Entity) → i < length es → total_size (take (suc i) es) ≡ total_size (take i es) + entity_size (get_or es i d)
size_next [] i d within = absurd (omega (arith, within))
size_next (e ∷ es) zero d within = omega arith
size_next (e ∷ es) (suc i) d within = omega (arith, size_next es i d (omega (arith, within)))

size_more : (es : List Entity) (i : ℕ) (d : Entity) → i < length es → total_size (take (i + 1) es) ≡ total_size (take i es) + entity_size (get_or es i d)
size_more es i d within = let next : i + 1 ≡ suc i = omega arith in ap (λ n. total_size (take n es)) next ∙ size_next es i d within

-- the entity that stands there
pub size_here : (es : List Entity) (i : ℕ) (e : Entity) → i < length es → e ≡ get_or es i e → total_size (take (i + 1) es) ≡ total_size (take i es) + entity_size e
size_here es i e within is = size_more es i e within ∙ ap (λ (x : Entity). total_size (take i es) + entity_size x) (sym is)

pub size_front : (es : List Entity) (i : ℕ) → total_size (take i es) ≤ total_size es
size_front [] zero = omega arith
size_front [] (suc i) = omega arith
size_front (e ∷ es) zero = omega arith
size_front (e ∷ es) (suc i) = omega (arith, size_front es i)

pub field_length : (es : List Entity) (n : ℕ) → All EntityFits es → length (entity_bits es ++ bits_of (replicate n 0)) ≡ 8 * (total_size es + n)
field_length [] n all = omega (arith, length-bits_of (replicate n 0), length-replicate {A = ℕ} n 0)
field_length (e ∷ es) n all =
    let fits : EntityFits e = all 0 e (omega arith) in
    let rest = field_length es n (λ k d within. all (suc k) d (omega (arith, within))) in
    omega (arith, ap length (append_assoc (spelled (entity_fields e)) (entity_bits es) (bits_of (replicate n 0))), length-append (spelled (entity_fields e)) (entity_bits es ++ bits_of (replicate n 0)), length-spelled (entity_fields e), widths-entity e fits.body, rest)

no_bits : digits 4 0 ≡ zeros 4
unfolding digits
no_bits = refl

pub frame_length : (afs check : ℕ) (field : List ℕ) → length (digits 4 afs ++ (bits_of field ++ (digits 16 check ++ digits 4 0))) ≡ 8 * (length field + 3)
frame_length afs check field =
    let behind : List Bool = digits 16 check ++ digits 4 0 in
    omega (arith, length-append (digits 4 afs) (bits_of field ++ behind), length-append (bits_of field) behind, length-append (digits 16 check) (digits 4 0), length-digits 4 afs, length-bits_of field, length-digits 16 check, length-digits 4 0)

pub frame_bits : (afs check : ℕ) (field : List ℕ) → digits 4 afs ++ (bits_of field ++ (digits 16 check ++ digits 4 0)) ≡ first_form afs field (digits 16 check) ++ zeros 4
frame_bits afs check field =
    ap (λ l. digits 4 afs ++ (bits_of field ++ (digits 16 check ++ l))) no_bits
    ∙ (ap (λ l. digits 4 afs ++ l) (sym (append_assoc (bits_of field) (digits 16 check) (zeros 4)))
    ∙ sym (append_assoc (digits 4 afs) (bits_of field ++ digits 16 check) (zeros 4)))

-- a frame at the front of bytes
pub frame_front : (afs room : ℕ) (field front rest : List ℕ) (check : List Bool) → length field ≡ room → length check ≡ 16 → bits_of front ≡ first_form afs field check ++ zeros 4
    → (take (8 * room + 20) (bits_of (front ++ rest)) ≡ first_form afs field check) × (take 4 (drop (8 * room + 20) (bits_of (front ++ rest))) ≡ zeros 4)
frame_front afs room field front rest check long width is =
    let form : List Bool = first_form afs field check in
    let behind : List Bool = zeros 4 ++ bits_of rest in
    let whole : bits_of (front ++ rest) ≡ form ++ behind = bits_of-append front rest ∙ (ap (λ l. l ++ bits_of rest) is ∙ append_assoc form (zeros 4) (bits_of rest)) in
    let size : length form ≡ 8 * room + 20 = omega (arith, length-form afs field check, long, width) in
    (ap (take (8 * room + 20)) whole ∙ take_at form behind (8 * room + 20) size, ap (take 4) (ap (drop (8 * room + 20)) whole ∙ drop_at form behind (8 * room + 20) size))

pub block_is : (afs room : ℕ) (es : List Entity) (tail field : List ℕ) (check bits : List Bool) → afs < 2 ^ 4 → room ≤ 1023 → length field ≡ room → AreBytes field → length check ≡ 16 → bits ≡ first_form afs field check → IsBlockChecked afs field check → IsField es tail field
    → IsBlock (record { afs = afs; entities = es; tail = tail }) bits
block_is afs room es tail field check bits index small long octets width form checked is =
    record {
      field = field;
      check = check;
      framed = record { index = index; room = omega (arith, long, small); octets = octets; width = width; form = inl form };
      checked = checked;
      entities = is;
    }

-- what was read can be written
pub field_fits : (es : List Entity) (tail bytes : List ℕ) → IsField es tail bytes → All EntityFits es
field_fits [] tail bytes is k d within = absurd (omega (arith, within))
field_fits (e ∷ es) tail bytes is zero d within = is.0.fits
field_fits (e ∷ es) tail bytes is (suc k) d within = field_fits es tail (drop (entity_size e) bytes) is.1 k d (omega (arith, within))

pub field_size : (es : List Entity) (tail bytes : List ℕ) → IsField es tail bytes → total_size es ≤ length bytes
field_size [] tail bytes is = omega arith
field_size (e ∷ es) tail bytes is =
    omega (arith, size_within e bytes is.0, length-drop (entity_size e) bytes, field_size es tail (drop (entity_size e) bytes) is.1)

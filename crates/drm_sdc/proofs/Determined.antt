-- A field is read in one way: its entities and its tail, or its first fault.
use Rattle.std.proofs.Common.{◌≡◌, ℕ, ◌+◌, ◌≤◌, Bool, true, false, List, [], ◌∷◌, length, take, drop, refl, sym, ◌∙◌, ap, subst, arith, cond}
use Rattle.std.proofs.lemmas.Bool.{lt-ltb, le-ltb}
use Rattle.std.specs.Prelude.{nat_lt}
use Rattle.drm_sdc.specs.declared.entity.Entity.{Entity}
use Rattle.drm_sdc.specs.declared.fault.SdcFault.{SdcFault}
use Rattle.drm_sdc.specs.declared.fault.SdcFault.TheVariants.{BlockLength, Front, Crc, EntityCut, BodyLength, LabelText, NoMemory}
use Rattle.drm_sdc.specs.Entity.{entity_size, IsEntity}
use Rattle.drm_sdc.specs.Reading.{described_length, described_kind, body_bits, has_body_length, IsWellFormedEntity}
use Rattle.drm_sdc.specs.Field.{IsTail, IsField, IsEntityCut, first_entity, IsEntityFault, IsFieldFault}
use Rattle.drm_sdc.proofs.FieldLaws.{AreBytes}
use Rattle.drm_sdc.proofs.EntityLaws.{entity_sound, one_entity, no_tail, size_described, size_within, first_is, described-take, small_front, small_rest}

-- where an entity stands there is no fault
pub no_fault : (e : Entity) (at : ℕ) (bytes : List ℕ) (f : SdcFault) → AreBytes bytes → IsEntity e (take (entity_size e) bytes) → IsEntityFault at bytes f → ⊥
no_fault e at bytes (EntityCut a) small is fault = omega (arith, fault.1, size_described e bytes is, size_within e bytes is)
no_fault e at bytes (BodyLength a kind len) small is fault =
    let sound : IsWellFormedEntity (first_entity bytes) = subst IsWellFormedEntity (first_is e bytes is) (entity_sound e (take (entity_size e) bytes) (small_front bytes (entity_size e) small) is) in
    let header : described_length (first_entity bytes) ≡ described_length bytes = described-take (2 + described_length bytes) bytes (omega arith) in
    let right : has_body_length kind (body_bits (first_entity bytes)) len ≡ true =
    ap (λ k. has_body_length k (body_bits (first_entity bytes)) len) fault.2
    ∙ (ap (has_body_length (described_kind (first_entity bytes)) (body_bits (first_entity bytes))) (fault.3 ∙ sym header) ∙ sound.body) in
    cc (right, fault.4)
no_fault e at bytes (LabelText a) small is fault =
    let sound : IsWellFormedEntity (first_entity bytes) = subst IsWellFormedEntity (first_is e bytes is) (entity_sound e (take (entity_size e) bytes) (small_front bytes (entity_size e) small) is) in
    fault.3 (sound.label fault.2)
no_fault e at bytes (BlockLength bits) small is fault = fault
no_fault e at bytes (Front bits) small is fault = fault
no_fault e at bytes (Crc stands computed) small is fault = fault
no_fault e at bytes NoMemory small is fault = fault

-- the fault that bytes have, if they have one
abbrev fault_of : ℕ → List ℕ → SdcFault
fault_of at bytes =
    cond (nat_lt (length bytes) (2 + described_length bytes)) (EntityCut at) (
    cond (has_body_length (described_kind (first_entity bytes)) (body_bits (first_entity bytes)) (described_length bytes)) (LabelText at) (BodyLength at (described_kind (first_entity bytes)) (described_length bytes)))

not_cut : (at : ℕ) (bytes : List ℕ) (b : Bool) → ¬ IsEntityCut bytes → has_body_length (described_kind (first_entity bytes)) (body_bits (first_entity bytes)) (described_length bytes) ≡ b
    → fault_of at bytes ≡ cond b (LabelText at) (BodyLength at (described_kind (first_entity bytes)) (described_length bytes))
not_cut at bytes b whole is =
    let le : 2 + described_length bytes ≤ length bytes = omega (arith, whole) in
    ap (λ t. cond t (EntityCut at) (cond (has_body_length (described_kind (first_entity bytes)) (body_bits (first_entity bytes)) (described_length bytes)) (LabelText at) (BodyLength at (described_kind (first_entity bytes)) (described_length bytes)))) (le-ltb _ _ le)
    ∙ ap (λ t. cond t (LabelText at) (BodyLength at (described_kind (first_entity bytes)) (described_length bytes))) is

fault_is : (at : ℕ) (bytes : List ℕ) (f : SdcFault) → IsEntityFault at bytes f → f ≡ fault_of at bytes
fault_is at bytes (EntityCut a) fault =
    ap EntityCut fault.0 ∙ sym (ap (λ t. cond t (EntityCut at) (cond (has_body_length (described_kind (first_entity bytes)) (body_bits (first_entity bytes)) (described_length bytes)) (LabelText at) (BodyLength at (described_kind (first_entity bytes)) (described_length bytes)))) (lt-ltb _ _ fault.1))
fault_is at bytes (BodyLength a kind len) fault =
    let wrong : has_body_length (described_kind (first_entity bytes)) (body_bits (first_entity bytes)) (described_length bytes) ≡ false =
    ap (λ k. has_body_length k (body_bits (first_entity bytes)) (described_length bytes)) (sym fault.2)
    ∙ (ap (has_body_length kind (body_bits (first_entity bytes))) (sym fault.3) ∙ fault.4) in
    let same : BodyLength a kind len ≡ BodyLength at (described_kind (first_entity bytes)) (described_length bytes) = cc (fault.0, fault.2, fault.3) in
    same ∙ sym (not_cut at bytes false fault.1 wrong)
fault_is at bytes (LabelText a) fault =
    let right : has_body_length (described_kind (first_entity bytes)) (body_bits (first_entity bytes)) (described_length bytes) ≡ true =
    ap (λ k. has_body_length k (body_bits (first_entity bytes)) (described_length bytes)) fault.2 in
    ap LabelText fault.0 ∙ sym (not_cut at bytes true fault.1 right)
fault_is at bytes (BlockLength bits) fault = absurd fault
fault_is at bytes (Front bits) fault = absurd fault
fault_is at bytes (Crc stands computed) fault = absurd fault
fault_is at bytes NoMemory fault = absurd fault

-- a place holds one entity
same_entity : (e f : Entity) (bytes : List ℕ) → AreBytes bytes → IsEntity e (take (entity_size e) bytes) → IsEntity f (take (entity_size f) bytes) → e ≡ f
same_entity e f bytes small is_e is_f = one_entity e bytes small is_e ∙ sym (one_entity f bytes small is_f)

pub one_field : (es fs : List Entity) (s t bytes : List ℕ) → AreBytes bytes → IsField es s bytes → IsField fs t bytes → (es ≡ fs) × (s ≡ t)
one_field [] [] s t bytes small a b = (refl, sym a.0 ∙ b.0)
one_field [] (f ∷ fs) s t bytes small a b = absurd (no_tail f bytes small b.0 (subst IsTail (sym a.0) a.1))
one_field (e ∷ es) [] s t bytes small a b = absurd (no_tail e bytes small a.0 (subst IsTail (sym b.0) b.1))
one_field (e ∷ es) (f ∷ fs) s t bytes small a b =
    let same : e ≡ f = same_entity e f bytes small a.0 b.0 in
    let rest = one_field es fs s t (drop (entity_size e) bytes) (small_rest bytes (entity_size e) small) a.1 (subst (λ (x : Entity). IsField fs t (drop (entity_size x) bytes)) (sym same) b.1) in
    (ap (λ (x : Entity). x ∷ es) same ∙ ap (λ (l : List Entity). f ∷ l) rest.0, rest.1)

pub field_or_fault : (es fs : List Entity) (at : ℕ) (t bytes : List ℕ) (fault : SdcFault) → AreBytes bytes → IsField es t bytes → IsFieldFault at fs bytes fault → ⊥
field_or_fault [] [] at t bytes fault small a b = b.0 (subst IsTail (sym a.0) a.1)
field_or_fault [] (f ∷ fs) at t bytes fault small a b = no_tail f bytes small b.0 (subst IsTail (sym a.0) a.1)
field_or_fault (e ∷ es) [] at t bytes fault small a b = no_fault e at bytes fault small a.0 b.1
field_or_fault (e ∷ es) (f ∷ fs) at t bytes fault small a b =
    let same : e ≡ f = same_entity e f bytes small a.0 b.0 in
    field_or_fault es fs (at + entity_size f) t (drop (entity_size f) bytes) fault (small_rest bytes (entity_size f) small) (subst (λ (x : Entity). IsField es t (drop (entity_size x) bytes)) same a.1) b.1

pub one_fault : (es fs : List Entity) (at : ℕ) (bytes : List ℕ) (a b : SdcFault) → AreBytes bytes → IsFieldFault at es bytes a → IsFieldFault at fs bytes b → a ≡ b
one_fault [] [] at bytes a b small x y = fault_is at bytes a x.1 ∙ sym (fault_is at bytes b y.1)
one_fault [] (f ∷ fs) at bytes a b small x y = absurd (no_fault f at bytes a small y.0 x.1)
one_fault (e ∷ es) [] at bytes a b small x y = absurd (no_fault e at bytes b small x.0 y.1)
one_fault (e ∷ es) (f ∷ fs) at bytes a b small x y =
    let same : e ≡ f = same_entity e f bytes small x.0 y.0 in
    one_fault es fs (at + entity_size f) (drop (entity_size f) bytes) a b (small_rest bytes (entity_size f) small)
    (subst (λ (z : Entity). IsFieldFault (at + entity_size z) es (drop (entity_size z) bytes) a) same x.1) y.1

-- The data field of an SDC block (ES 201 980): entities one after another, and a tail.
use Rattle.std.specs.Prelude.{ℕ, ◌≡◌, ◌+◌, ◌<◌, ◌≤◌, ◌⊎◌, false, List, [], ◌∷◌, length, take, drop, slice_index, IsUtf8}
use Rattle.drm_sdc.specs.declared.entity.Entity.{Entity}
use Rattle.drm_sdc.specs.declared.fault.SdcFault.{SdcFault}
use Rattle.drm_sdc.specs.declared.fault.SdcFault.TheVariants.{BlockLength, Front, Crc, EntityCut, BodyLength, LabelText, NoMemory}
use Rattle.drm_sdc.specs.Entity.{IsEntity, entity_size}
use Rattle.drm_sdc.specs.Reading.{described_length, described_kind, body_bits, has_body_length, IsWellFormedEntity}

-- fewer than two bytes, or two zero bytes at the front
abbrev pub IsTail : List ℕ → Type 0
IsTail bytes = (length bytes < 2) ⊎ ((slice_index bytes 0 ≡ 0) × (slice_index bytes 1 ≡ 0))

-- The bytes are those of the entities, and then the tail.
abbrev pub IsField : List Entity → List ℕ → List ℕ → Type 0
IsField [] tail bytes = (bytes ≡ tail) × IsTail tail
IsField (e ∷ entities) tail bytes = IsEntity e (take (entity_size e) bytes) × IsField entities tail (drop (entity_size e) bytes)

-- the length in the header is more than what is left
abbrev pub IsEntityCut : List ℕ → Type 0
IsEntityCut bytes = length bytes < 2 + described_length bytes

-- the bytes that the header at the front of these gives to its entity
abbrev pub first_entity : List ℕ → List ℕ
first_entity bytes = take (2 + described_length bytes) bytes

-- What is wrong with the entity at the front of these bytes, which are the field's from `at` on.
abbrev pub IsEntityFault : ℕ → List ℕ → SdcFault → Type 0
IsEntityFault at bytes (EntityCut a) = (a ≡ at) × IsEntityCut bytes
IsEntityFault at bytes (BodyLength a kind len) =
    (a ≡ at) × (¬ IsEntityCut bytes) × (kind ≡ described_kind (first_entity bytes)) × (len ≡ described_length bytes) × (has_body_length kind (body_bits (first_entity bytes)) len ≡ false)
IsEntityFault at bytes (LabelText a) =
    (a ≡ at) × (¬ IsEntityCut bytes) × (described_kind (first_entity bytes) ≡ 1) × (¬ IsUtf8 (drop 2 (first_entity bytes)))
IsEntityFault at bytes (BlockLength bits) = ⊥
IsEntityFault at bytes (Front bits) = ⊥
IsEntityFault at bytes (Crc stands computed) = ⊥
IsEntityFault at bytes NoMemory = ⊥

-- Behind these entities stands no tail, and no entity for this reason. The bytes are the field's from `at` on.
abbrev pub IsFieldFault : ℕ → List Entity → List ℕ → SdcFault → Type 0
IsFieldFault at [] bytes fault = (¬ IsTail bytes) × IsEntityFault at bytes fault
IsFieldFault at (e ∷ entities) bytes fault =
    IsEntity e (take (entity_size e) bytes) × IsFieldFault (at + entity_size e) entities (drop (entity_size e) bytes) fault

-- the first fault of a field
abbrev pub IsFirstFault : List ℕ → SdcFault → Type 0
IsFirstFault field fault = (entities : List Entity) × IsFieldFault 0 entities field fault

-- An entity of n bytes stands at the front of these.
pub record IsNextEntity (n : ℕ) (bytes : List ℕ) : Type 0 where
  pub size : n ≡ 2 + described_length bytes
  pub within : n ≤ length bytes
  pub small : n < 130
  pub sound : IsWellFormedEntity (take n bytes)
  pub no_tail : ¬ IsTail bytes

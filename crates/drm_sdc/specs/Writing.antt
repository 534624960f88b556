-- The bits of entities, and how many bytes they have.
use Rattle.std.specs.Prelude.{◌++◌, ℕ, ◌+◌, List, [], ◌∷◌, Bool}
use Rattle.drm_bits.specs.Fields.{spelled}
use Rattle.drm_sdc.specs.declared.entity.Entity.{Entity}
use Rattle.drm_sdc.specs.Entity.{entity_fields, entity_size}

-- the entities, one behind another, and how many bytes they have
abbrev pub entity_bits : List Entity → List Bool
entity_bits [] = []
entity_bits (e ∷ entities) = spelled (entity_fields e) ++ entity_bits entities

abbrev pub total_size : List Entity → ℕ
total_size [] = 0
total_size (e ∷ entities) = entity_size e + total_size entities

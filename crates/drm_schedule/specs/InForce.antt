-- Which entities a configuration tells in a super frame: those of a block hold from its number on, counted from the start of the
-- configuration, up to the next block.
use Rattle.std.specs.Prelude.{ℕ, ◌≡◌, ◌+◌, ◌-◌, ◌<◌, ◌≤◌, nat_le, All, List, [], ◌∷◌, ◌++◌, filter}
use Rattle.drm_sdc.specs.declared.entity.Entity.{Entity}
use Rattle.drm_schedule.specs.declared.timed.Timed.{Timed}
use Rattle.drm_schedule.specs.declared.config.Config.{Config}

-- those of the first block
abbrev pub entities_of_first : List Timed → List Entity
entities_of_first [] = []
entities_of_first (block ∷ more) = block.entities

-- those of the last one of these blocks, or else these
abbrev pub entities_of_last : List Entity → List Timed → List Entity
entities_of_last entities [] = entities
entities_of_last entities (block ∷ more) = entities_of_last block.entities more

-- the blocks that have begun, so many super frames behind the start
abbrev pub begun : ℕ → List Timed → List Timed
begun n blocks = filter (λ (block : Timed). nat_le block.from n) blocks

-- the entities by which a configuration is announced
abbrev pub first_entities : Config → List Entity
first_entities c = entities_of_first c.blocks

-- the entities in force in a super frame of the configuration
abbrev pub entities_in_force : Config → ℕ → List Entity
entities_in_force c sf = entities_of_last (first_entities c) (begun (sf - c.start) c.blocks)

-- These entities are those of a block that has begun, and no block behind it has.
pub record AreInForce (c : Config) (sf : ℕ) (entities : List Entity) : Type 0 where
  pub earlier : List Timed
  pub block : Timed
  pub later : List Timed
  pub blocks : c.blocks ≡ earlier ++ block ∷ later
  pub has_begun : c.start + block.from ≤ sf
  pub waiting : All (λ (b : Timed). sf < c.start + b.from) later
  pub are : entities ≡ block.entities

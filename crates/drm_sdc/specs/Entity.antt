-- SDC entities (ES 201 980): a header of body length, version and type, and the body.
use Rattle.std.specs.Prelude.{ℕ, ◌≢◌, ◌+◌, false, List, ◌∷◌, replicate}
use Rattle.drm_bits.specs.Bits.{bits_of}
use Rattle.drm_bits.specs.Fields.{BitField, field, flag, AreFields, AllFit}
use Rattle.drm_sdc.specs.declared.entity.Entity.{Entity}
use Rattle.drm_sdc.specs.declared.body.Body.{Body}
use Rattle.drm_sdc.specs.declared.body.Body.TheVariants.{Mux}
use Rattle.drm_sdc.specs.Bodies.{body_fields, body_length, kind_of, IsBody}

abbrev pub entity_fields : Entity → List BitField
entity_fields e = field 7 (body_length e.body) ∷ flag e.version ∷ field 4 (kind_of e.body) ∷ body_fields e.body

-- the bytes of an entity
abbrev pub entity_size : Entity → ℕ
entity_size e = 2 + body_length e.body

-- the entity whose first two bytes are 0: a description of no stream, which a reader takes for the end of the entities
abbrev pub empty_entity : Entity
empty_entity =
    record { version = false; body = Mux (record { prot_a = 0; prot_b = 0; count = 0; parts = replicate 4 (record { a = 0; b = 0 }) }) }

-- The entities that can be written: each number fits its field, the body length among them.
pub record EntityFits (e : Entity) : Type 0 where
  pub fields : AllFit (entity_fields e)
  pub body : IsBody e.body
  pub not_empty : e ≢ empty_entity

-- The bytes are the entity.
pub record IsEntity (e : Entity) (bytes : List ℕ) : Type 0 where
  pub fits : EntityFits e
  pub fields : AreFields (entity_fields e) (bits_of bytes)

-- Each number of the body fits its field, the length and the type among them, and the body is what its type asks for.
pub record BodyFits (b : Body) : Type 0 where
  pub fields : AllFit (field 7 (body_length b) ∷ field 4 (kind_of b) ∷ body_fields b)
  pub body : IsBody b

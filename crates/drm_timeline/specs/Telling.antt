-- What a bit sink gets of an announcement.
use Rattle.std.specs.Prelude.{ℕ, ◌≡◌, ◌+◌, ◌*◌, ◌≤◌, List, length, All, Option, Some}
use Rattle.drm_bits.specs.Sink.{unwritten}
use Rattle.drm_bits.specs.declared.bit_sink.BitSink.{BitSink}
use Rattle.drm_sdc.specs.declared.entity.Entity.{Entity}
use Rattle.drm_sdc.specs.Entity.{EntityFits}
use Rattle.drm_bits.specs.Sink.{WroteBits}
use Rattle.drm_sdc.specs.Writing.{entity_bits, total_size}
use Rattle.drm_schedule.specs.declared.config.Config.{Config}
use Rattle.drm_schedule.specs.Sizes.{free_bytes}
use Rattle.drm_timeline.specs.Announcing.{announced_by}

-- These entities, behind what was written.
pub record WroteEntities (entities : List Entity) (old new : BitSink) : Type 0 where
  pub each : All EntityFits entities
  pub wrote : WroteBits (entity_bits entities) old new
  pub left : length (unwritten new) + 8 * total_size entities ≡ length (unwritten old)

-- What the block of super frame sf tells of the configuration that is announced, within the free bytes.
pub record BlockAnnounces (before : Config) (sf : ℕ) (announced : Option Config) (old new : BitSink) : Type 0 where
  pub entities : List Entity
  pub are : announced_by before sf announced ≡ Some entities
  pub written : WroteEntities entities old new
  pub fit : total_size entities ≤ free_bytes before sf

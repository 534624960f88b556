-- The block of each super frame of a schedule (ES 201 980, "Service Description Channel").
use Rattle.std.specs.Prelude.{ℕ, ◌-◌, ◌/◌, false, if◌then◌else◌, List, [], ◌∷◌, ◌++◌, replicate, option_map, Option, Some, None}
use Rattle.drm_sdc.specs.declared.body.Body.{Body}
use Rattle.drm_sdc.specs.declared.body.Body.TheVariants.{Mux}
use Rattle.drm_sdc.specs.declared.entity.Entity.{Entity}
use Rattle.drm_sdc.specs.declared.block.Block.{Block}
use Rattle.drm_sdc.specs.Writing.{total_size}
use Rattle.drm_schedule.specs.declared.config.Clock.{Clock}
use Rattle.drm_schedule.specs.declared.config.Config.{Config}
use Rattle.drm_schedule.specs.declared.plan.Plan.{Plan}
use Rattle.drm_schedule.specs.InForce.{entities_in_force}
use Rattle.drm_schedule.specs.Sizes.{tells_clock}
use Rattle.plan_packing.specs.Packing.{chain}
use Rattle.drm_timeline.specs.Standing.{config_of, announced_in}
use Rattle.drm_timeline.specs.Description.{description_of, moment_of}
use Rattle.drm_timeline.specs.Announcing.{announced_by}

-- an entity of the configuration that holds
abbrev pub current : Body → Entity
current body = record { version = false; body = body }

-- the clock of a super frame, a minute later after each fifty
abbrev pub clock_from : ℕ → Option Clock → List Entity
clock_from later None = []
clock_from later (Some clock) = current (moment_of clock later) ∷ []

-- the clock, where the block of super frame sf tells it
abbrev pub clock_in : Config → ℕ → List Entity
clock_in c sf = if tells_clock c sf then clock_from ((sf - c.start) / 50) c.clock else []

-- what the block of super frame sf tells of its own configuration
abbrev pub own_entities : Config → ℕ → List Entity
own_entities c sf = current (Mux (description_of c)) ∷ (entities_in_force c sf ++ clock_in c sf)

-- the entities of a block
abbrev pub entities_of : Config → Plan → ℕ → Option (List Entity)
entities_of c plan sf = option_map (λ announced. own_entities c sf ++ announced) (announced_by c sf (announced_in plan sf))

-- the block with these entities, whose data field has so many bytes: its index is 0, and zeros end the field
abbrev pub block_with : ℕ → List Entity → Block
block_with room entities = record { afs = 0; entities = entities; tail = replicate (room - total_size entities) 0 }

-- the block of super frame sf
abbrev pub block_of : Plan → ℕ → Option Block
block_of plan sf = chain (config_of plan sf) (λ c. option_map (block_with c.room) (entities_of c plan sf))

-- What the blocks of a configuration tell, one after another.
use Rattle.std.specs.Prelude.{ℕ, ◌≡◌, ◌≤◌, List, length, Option}
use Rattle.drm_sdc.specs.declared.entity.Entity.{Entity}
use Rattle.drm_schedule.specs.declared.plan.Plan.{Plan}
use Rattle.drm_schedule.specs.declared.config.Config.{Config}
use Rattle.drm_schedule.specs.InForce.{entities_in_force, AreInForce}
use Rattle.drm_schedule.specs.Valid.{IsFaultless}

-- In each super frame of a configuration without fault just one list of entities is in force.
abbrev pub OneIsInForce : Type 0
OneIsInForce =
    (plan : Plan) (before : Option Config) (c : Config) (more : List Config) (sf : ℕ)
    → 1 ≤ length c.blocks → IsFaultless plan before c more → c.start ≤ sf
    → AreInForce c sf (entities_in_force c sf) × ((entities : List Entity) → AreInForce c sf entities → entities ≡ entities_in_force c sf)

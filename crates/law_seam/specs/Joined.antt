-- Two schedules, one behind the other, as one.
use Rattle.std.specs.Prelude.{ℕ, ◌≡◌, ◌+◌, ◌%◌, ◌^◌, List, [], ◌∷◌, ◌++◌, map}
use Rattle.drm_schedule.specs.declared.config.Config.{Config}
use Rattle.drm_schedule.specs.declared.plan.Plan.{Plan}
use Rattle.drm_timeline.specs.Numbers.{frame_count}

-- a configuration that starts so many super frames later
abbrev pub shifted : ℕ → Config → Config
shifted n c = record c { start = c.start + n }

-- those of the next schedule behind so many super frames: the first one is announced by this countdown
abbrev pub configs_behind : ℕ → ℕ → List Config → List Config
configs_behind n countdown [] = []
configs_behind n countdown (c ∷ configs) = record c { start = c.start + n; countdown = countdown } ∷ map (shifted n) configs

-- both as one
abbrev pub joined : ℕ → Plan → Plan → Plan
joined countdown plan next =
    record plan { length = plan.length + next.length; configs = plan.configs ++ configs_behind plan.length countdown next.configs }

-- The next schedule goes on where this one ends: under its carry, with the sequence number and the counter that come behind its last frame.
pub record GoesOn (plan next : Plan) : Type 0 where
  pub carry : next.carry ≡ plan.carry
  pub sequence : next.seq ≡ (plan.seq + frame_count plan) % 2 ^ 16
  pub counter : next.dlfc ≡ (plan.dlfc + frame_count plan) % 2 ^ 32

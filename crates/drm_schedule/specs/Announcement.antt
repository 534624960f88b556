-- The announcement of a configuration, in the super frames of its countdown: what the blocks of the configuration before
-- it tell of it.
use Rattle.std.specs.Prelude.{ℕ, ◌-◌, not, Bool, false, List, ◌∷◌, ◌++◌, length, map, Option, Some, None}
use Rattle.std.specs.List.{range_with_len}
use Rattle.drm_sdc.specs.declared.entity.Entity.{Entity}
use Rattle.drm_sdc.specs.Entity.{entity_size}
use Rattle.drm_schedule.specs.declared.announcement.Repeated.{Repeated}
use Rattle.drm_schedule.specs.declared.announcement.Repeated.TheVariants as repeated
use Rattle.drm_schedule.specs.declared.config.Config.{Config}
use Rattle.drm_schedule.specs.InForce.{first_entities}
use Rattle.drm_schedule.specs.SameLines.{those_of}
use Rattle.drm_schedule.specs.Sizes.{description_size, free_bytes}
use Rattle.plan_packing.specs.Packing.{can_be_packed}

-- the entities of the lines that an announcement repeats, in its order
abbrev pub repeated_of : Repeated → Config → List Entity
repeated_of kind c = those_of kind (first_entities c)

abbrev pub all_repeated : Config → List Entity
all_repeated c = repeated_of repeated.Audio c ++ repeated_of repeated.App c

-- the entity with the channel parameters of the next configuration
abbrev pub parameters_size : ℕ
parameters_size = 4

-- the entities of an announcement by their sizes: the streams, the channel parameters, and what it repeats
abbrev pub announced : Config → List ℕ
announced c = description_size (length c.streams) ∷ parameters_size ∷ map entity_size (all_repeated c)

-- the first super frame of a countdown
abbrev pub countdown_start : Config → ℕ
countdown_start c = c.start - c.countdown

-- what the super frames of the countdown to a configuration have free, in the blocks of the one before it
abbrev pub free_in_countdown : Config → Config → List ℕ
free_in_countdown before c = map (free_bytes before) (range_with_len (countdown_start c) c.countdown)

-- its announcement can be packed whole
abbrev pub can_be_announced : Config → Config → Bool
can_be_announced before c = can_be_packed (free_in_countdown before c) (announced c)

-- the first configuration isn't announced
abbrev pub lacks_announcement : Option Config → Config → Bool
lacks_announcement None c = false
lacks_announcement (Some before) c = not (can_be_announced before c)

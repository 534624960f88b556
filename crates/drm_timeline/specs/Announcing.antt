-- What is told of a configuration before it starts, and in which super frame (ES 201 980, "Reconfiguration").
use Rattle.std.specs.Prelude.{ℕ, ◌-◌, ◌==◌, nat_lt, true, if◌then◌else◌, List, [], ◌∷◌, map, slice_index, option_map, Option, Some, None}
use Rattle.drm_sdc.specs.declared.body.Body.{Body}
use Rattle.drm_sdc.specs.declared.body.Body.TheVariants.{Mux}
use Rattle.drm_sdc.specs.declared.entity.Entity.{Entity}
use Rattle.drm_sdc.specs.Entity.{entity_size}
use Rattle.drm_schedule.specs.declared.config.Config.{Config}
use Rattle.plan_packing.specs.declared.packing.Spot.{Spot}
use Rattle.plan_packing.specs.Packing.{packed, front}
use Rattle.drm_schedule.specs.Announcement.{all_repeated, countdown_start, free_in_countdown}
use Rattle.drm_timeline.specs.Description.{description_of, parameters_of}

-- an entity of the next configuration
abbrev pub next : Body → Entity
next body = record { version = true; body = body }

abbrev pub as_next : Entity → Entity
as_next e = next e.body

-- the streams and the channel parameters of a configuration, and the entities of its lines that are repeated
abbrev pub announcement_of : Config → Option (List Entity)
announcement_of c =
    option_map (λ parameters. next (Mux (description_of c)) ∷ next parameters ∷ map as_next (all_repeated c)) (parameters_of c)

-- those of the entities whose super frame is the k-th, by the list of their super frames
abbrev pub those_in : ℕ → List ℕ → List Entity → List Entity
those_in k (frame ∷ frames) (e ∷ entities) = if frame == k then e ∷ those_in k frames entities else those_in k frames entities
those_in k [] entities = []
those_in k (frame ∷ frames) [] = []

abbrev pub by_frames : ℕ → List Entity → Option (List ℕ) → List Entity
by_frames k entities None = []
by_frames k entities (Some frames) = those_in k frames entities

-- those of the entities that are packed into the k-th of the super frames with so many free bytes, behind a spot
unfoldable pub packed_in : ℕ → List ℕ → Spot → List Entity → List Entity
packed_in k free spot entities = by_frames k entities (packed free spot (map entity_size entities))

-- what the block of super frame sf, of a configuration, tells of the one that is announced
abbrev pub announced_by : Config → ℕ → Option Config → Option (List Entity)
announced_by before sf None = Some []
announced_by before sf (Some c) = option_map (packed_in (sf - countdown_start c) (free_in_countdown before c) front) (announcement_of c)

-- how many bytes the k-th super frame has left behind a spot
abbrev pub left_in : ℕ → List ℕ → Spot → ℕ
left_in k free spot = if nat_lt k spot.frame then 0 else (if spot.frame == k then slice_index free k - spot.taken else slice_index free k)

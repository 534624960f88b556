-- Whether the audio lines and the app lines of a block are those of the first one.
use Rattle.std.specs.Prelude.{ℕ, ◌||◌, not, bytes_eq, Bool, true, false, List, [], ◌∷◌, ◌++◌, filter}
use Rattle.std.specs.Cmp.Lexicographic.{pointwise}
use Rattle.std.specs.Int.{from_bool}
use Rattle.drm_sdc.specs.declared.body.AppMode.{AppMode}
use Rattle.drm_sdc.specs.declared.body.AppMode.TheVariants.{Sync, Packet}
use Rattle.drm_sdc.specs.declared.body.Body.{Body}
use Rattle.drm_sdc.specs.declared.body.Body.TheVariants.{App, Audio}
use Rattle.drm_sdc.specs.declared.entity.Entity.{Entity}
use Rattle.drm_schedule.specs.declared.announcement.Repeated.{Repeated}
use Rattle.drm_schedule.specs.declared.announcement.Repeated.TheVariants as repeated
use Rattle.drm_schedule.specs.declared.timed.Timed.{Timed}
use Rattle.drm_schedule.specs.declared.config.Config.{Config}
use Rattle.drm_schedule.specs.InForce.{first_entities}

-- an audio or an app entity
abbrev pub is_of : Repeated → Body → Bool
is_of repeated.Audio (Audio short stream coding sbr mode rate text enhancement coder spare config) = true
is_of repeated.Audio _ = false
is_of repeated.App (App short stream packet enhancement domain bytes) = true
is_of repeated.App _ = false

-- those of a list, in their order
abbrev pub those_of : Repeated → List Entity → List Entity
those_of kind entities = filter (λ (e : Entity). is_of kind e.body) entities

-- how an application's data is carried, as numbers
abbrev pub mode_numbers : AppMode → List ℕ
mode_numbers (Sync spare) = 0 ∷ spare ∷ 0 ∷ 0 ∷ []
mode_numbers (Packet unit pid length) = 1 ∷ from_bool unit ∷ pid ∷ length ∷ []

-- all that such an entity says, as numbers
abbrev pub numbers_of : Body → List ℕ
numbers_of (Audio short stream coding sbr mode rate text enhancement coder spare config) =
    short ∷ stream ∷ coding ∷ from_bool sbr ∷ mode ∷ rate ∷ from_bool text ∷ from_bool enhancement ∷ coder ∷ from_bool spare ∷ config
numbers_of (App short stream packet enhancement domain bytes) =
    short ∷ stream ∷ (mode_numbers packet ++ from_bool enhancement ∷ domain ∷ bytes)
numbers_of _ = []

-- two of one kind say the same
abbrev pub say_the_same : Entity → Entity → Bool
say_the_same e f = bytes_eq (numbers_of e.body) (numbers_of f.body)

-- the lines of this kind aren't, in their order, those of another list
abbrev pub differ : Repeated → List Entity → List Entity → Bool
differ kind first other = not (pointwise say_the_same (those_of kind first) (those_of kind other))

-- the audio lines, or the app lines, of a block aren't those of the first one
abbrev pub tells_others : Config → Timed → Bool
tells_others c block = differ repeated.Audio (first_entities c) block.entities || differ repeated.App (first_entities c) block.entities

-- Whether the services of a configuration agree with its streams and with what the entities of each block say of them.
use Rattle.std.specs.Prelude.{ℕ, ◌==◌, ◌&&◌, ◌||◌, nat_le, nat_lt, not, Bool, false, List, [], ◌∷◌, length, count_by}
use Rattle.std.specs.List.{list_any}
use Rattle.drm_fac.specs.declared.service.Service.{Service}
use Rattle.drm_sdc.specs.declared.body.Body.{Body}
use Rattle.drm_sdc.specs.declared.body.Body.TheVariants.{Label, App, Audio, Language}
use Rattle.drm_sdc.specs.declared.entity.Entity.{Entity}
use Rattle.drm_schedule.specs.declared.timed.Timed.{Timed}
use Rattle.drm_schedule.specs.declared.config.Config.{Config}
use Rattle.drm_schedule.specs.SameLines.{tells_others}

-- the short ids that there are
abbrev pub short_ids : List ℕ
short_ids = 0 ∷ 1 ∷ 2 ∷ 3 ∷ []

-- whether the service with a short id is among these, and whether as an audio service
abbrev pub is_service : ℕ → Service → Bool
is_service short s = s.short == short

abbrev pub is_audio_service : ℕ → Service → Bool
is_audio_service short s = s.short == short && not s.is_data

-- whether an entity is of this kind, and of the service with this short id
abbrev pub is_audio_of : ℕ → Body → Bool
is_audio_of k (Audio short stream coding sbr mode rate text enhancement coder spare config) = short == k
is_audio_of k _ = false

abbrev pub is_app_of : ℕ → Body → Bool
is_app_of k (App short stream packet enhancement domain bytes) = short == k
is_app_of k _ = false

abbrev pub is_label_of : ℕ → Body → Bool
is_label_of k (Label short spare text) = short == k
is_label_of k _ = false

-- an audio entity of none of the audio services
abbrev pub is_stray_audio : List Service → Body → Bool
is_stray_audio services (Audio short stream coding sbr mode rate text enhancement coder spare config) = not (list_any (is_audio_service short) services)
is_stray_audio services _ = false

-- an app, label or language entity of none of the services
abbrev pub is_stray : List Service → Body → Bool
is_stray services (App short stream packet enhancement domain bytes) = not (list_any (is_service short) services)
is_stray services (Label short spare text) = not (list_any (is_service short) services)
is_stray services (Language short spare language country) = not (list_any (is_service short) services)
is_stray services _ = false

-- an audio or app entity whose stream isn't among so many
abbrev pub is_streamless : ℕ → Body → Bool
is_streamless count (Audio short stream coding sbr mode rate text enhancement coder spare config) = nat_le count stream
is_streamless count (App short stream packet enhancement domain bytes) = nat_le count stream
is_streamless count _ = false

-- more than four services
abbrev pub are_too_many : Config → Bool
are_too_many c = nat_lt 4 (length c.services)

-- two services with one short id
abbrev pub share_a_short_id : Config → Bool
share_a_short_id c = list_any (λ k. nat_lt 1 (count_by (is_service k) c.services)) short_ids

-- the services are too many, or two have one short id
abbrev pub services_disagree : Config → Bool
services_disagree c = are_too_many c || share_a_short_id c

-- an audio service without exactly one audio line
abbrev pub lack_one_audio_line : List Service → List Entity → Bool
lack_one_audio_line services entities =
    list_any (λ (s : Service). not s.is_data && not (count_by (λ (e : Entity). is_audio_of s.short e.body) entities == 1)) services

-- a data service without an app line
abbrev pub lack_an_app_line : List Service → List Entity → Bool
lack_an_app_line services entities =
    list_any (λ (s : Service). s.is_data && not (list_any (λ (e : Entity). is_app_of s.short e.body) entities)) services

-- an audio line whose short id isn't an audio service's
abbrev pub have_a_stray_audio_line : List Service → List Entity → Bool
have_a_stray_audio_line services entities = list_any (λ (e : Entity). is_stray_audio services e.body) entities

-- an app, label or language line whose short id is no service's
abbrev pub have_a_stray_line : List Service → List Entity → Bool
have_a_stray_line services entities = list_any (λ (e : Entity). is_stray services e.body) entities

-- two labels of one short id
abbrev pub have_two_labels : List Entity → Bool
have_two_labels entities = list_any (λ k. nat_lt 1 (count_by (λ (e : Entity). is_label_of k e.body) entities)) short_ids

-- an audio or app line whose stream isn't among so many
abbrev pub have_a_line_without_stream : ℕ → List Entity → Bool
have_a_line_without_stream count entities = list_any (λ (e : Entity). is_streamless count e.body) entities

-- the lines of a block disagree with the services and the streams, or with the first block
abbrev pub block_disagrees : Config → Timed → Bool
block_disagrees c block =
    lack_one_audio_line c.services block.entities || lack_an_app_line c.services block.entities
    || have_a_stray_audio_line c.services block.entities || have_a_stray_line c.services block.entities
    || have_two_labels block.entities || have_a_line_without_stream (length c.streams) block.entities || tells_others c block

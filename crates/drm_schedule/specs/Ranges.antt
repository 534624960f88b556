-- What the lines of a text can give: the range of each number, and how much there may be.
use Rattle.std.specs.Prelude.{ℕ, ◌≡◌, ◌≢◌, ◌+◌, ◌≤◌, ◌<◌, ◌^◌, ◌==◌, ◌||◌, false, Bool, List, length, All, Any, IfSome, IsTrue, IsUtf8}
use Rattle.std.specs.Str.{chars}
use Rattle.drm_bits.specs.Bits.{IsBytes}
use Rattle.drm_fac.specs.declared.service.Service.{Service}
use Rattle.drm_sdc.specs.declared.channels.Channel15.{Channel15}
use Rattle.drm_sdc.specs.declared.body.AppMode.{AppMode}
use Rattle.drm_sdc.specs.declared.body.AppMode.TheVariants.{Sync, Packet}
use Rattle.drm_sdc.specs.declared.body.Body.{Body}
use Rattle.drm_sdc.specs.declared.body.Body.TheVariants.{Mux, Label, Freq, When, App, Time, Audio, Next, Language, Raw}
use Rattle.drm_sdc.specs.declared.entity.Entity.{Entity}
use Rattle.dcp_pft.specs.Carrying.{CarryFits}
use Rattle.drm_schedule.specs.declared.stream.Content.{Content}
use Rattle.drm_schedule.specs.declared.stream.Content.TheVariants.{Fill, File}
use Rattle.drm_schedule.specs.declared.stream.Stream.{Stream}
use Rattle.drm_schedule.specs.declared.timed.Timed.{Timed}
use Rattle.drm_schedule.specs.declared.config.Clock.{Clock}
use Rattle.drm_schedule.specs.declared.config.Config.{Config}
use Rattle.drm_schedule.specs.declared.plan.Plan.{Plan}

-- A word of a line, in UTF-8: neither a space nor a line feed is in it.
pub record IsName (name : List ℕ) : Type 0 where
  pub utf8 : IsUtf8 name
  pub unspaced : All (λ byte. byte ≢ 32) name
  pub one_line : All (λ byte. byte ≢ 10) name
  pub some : 1 ≤ length name
  pub few : length name ≤ 255

-- The text of a label, in UTF-8: of at most 16 characters, none of them a line feed, and not all of them spaces.
pub record IsLabel (text : List ℕ) : Type 0 where
  pub utf8 : IsUtf8 text
  pub one_line : All (λ byte. byte ≢ 10) text
  pub seen : Any (λ byte. byte ≢ 32) text
  pub few : length (chars text) ≤ 16
  pub short : length text ≤ 64

-- a byte for all frames, or a file; what it holds may be of any length
abbrev pub ContentInLines : Content → Type 0
ContentInLines (Fill byte) = byte < 2 ^ 8
ContentInLines (File name bytes) = IsName name

pub record StreamInLines (s : Stream) : Type 0 where
  pub a_fits : s.a < 2 ^ 12
  pub b_fits : s.b < 2 ^ 12
  pub not_empty : 1 ≤ s.a + s.b
  pub contents : ContentInLines s.content

pub record ServiceInLines (s : Service) : Type 0 where
  pub id_fits : s.id < 2 ^ 24
  pub short_fits : s.short < 2 ^ 2
  pub language_fits : s.language < 2 ^ 4
  pub descriptor_fits : s.descriptor < 2 ^ 5
  pub last_is_zero : s.last ≡ 0

pub record ClockInLines (c : Clock) : Type 0 where
  pub mjd_fits : c.mjd ≤ 131000
  pub hours_fit : c.hours < 24
  pub minutes_fit : c.minutes < 60

-- at most n bytes
abbrev pub BytesInLines : ℕ → List ℕ → Type 0
BytesInLines n bytes = (length bytes ≤ n) × IsBytes bytes

-- one of the codes of an entity's mode of carriage, and its bytes, at most 127 with what stands before them
abbrev pub AppInLines : AppMode → List ℕ → Type 0
AppInLines (Sync spare) bytes = (spare ≡ 0) × BytesInLines 126 bytes
AppInLines (Packet unit pid length) bytes = (pid < 2 ^ 2) × (length < 2 ^ 8) × BytesInLines 125 bytes

-- the types that no line but a raw one gives
abbrev pub is_raw_kind : ℕ → Bool
is_raw_kind kind = kind == 2 || kind == 6 || kind == 7 || kind == 11 || kind == 13 || kind == 14 || kind == 15

-- the body that a line gives, with 0 in each spare bit
abbrev pub BodyInLines : Body → Type 0
BodyInLines (Mux desc) = ⊥
BodyInLines (Label short spare text) = (short < 2 ^ 2) × (spare ≡ 0) × IsLabel text
BodyInLines (Freq sync layer restriction region list) =
    IfSome restriction (λ byte. byte < 2 ^ 8) × IfSome region (λ byte. byte < 2 ^ 8) × (1 ≤ length list) × (length list ≤ 16) × All (λ (c : Channel15). c.number < 2 ^ 15) list
BodyInLines (When id day start duration) = (id < 2 ^ 4) × (day < 2 ^ 7) × (start < 2 ^ 11) × (duration < 2 ^ 14)
BodyInLines (App short stream packet enhancement domain bytes) = (short < 2 ^ 2) × (stream < 2 ^ 2) × (domain < 2 ^ 3) × AppInLines packet bytes
BodyInLines (Time mjd hours minutes extra) = ⊥
BodyInLines (Audio short stream coding sbr mode rate text enhancement coder spare config) =
    (short < 2 ^ 2) × (stream < 2 ^ 2) × (coding < 2 ^ 2) × (mode < 2 ^ 2) × (rate < 2 ^ 3) × (coder < 2 ^ 5) × (spare ≡ false) × BytesInLines 125 config
BodyInLines (Next enhancement mode occupancy short_depth msc qam4 services last) = ⊥
BodyInLines (Language short spare language country) = (short < 2 ^ 2) × (spare ≡ 0) × (language < 2 ^ 24) × (country < 2 ^ 16)
BodyInLines (Raw kind nibble bytes) = IsTrue (is_raw_kind kind) × (nibble < 2 ^ 4) × BytesInLines 127 bytes

-- a raw line has a version of its own
abbrev pub VersionInLines : Bool → Body → Type 0
VersionInLines version (Raw kind nibble bytes) = Unit {0}
VersionInLines version body = version ≡ false

pub record EntityInLines (e : Entity) : Type 0 where
  pub version_fits : VersionInLines e.version e.body
  pub body_fits : BodyInLines e.body

pub record TimedInLines (block : Timed) : Type 0 where
  pub from_fits : block.from < 1000000
  pub few_entities : length block.entities ≤ 64
  pub each_entity : All EntityInLines block.entities

pub record ConfigInLines (c : Config) : Type 0 where
  pub start_fits : c.start < 1000000
  pub countdown_fits : c.countdown < 2 ^ 3
  pub occupancy_fits : c.occupancy < 6
  pub msc_fits : c.msc < 2 ^ 2
  pub prot_a_fits : c.prot_a < 2 ^ 2
  pub prot_b_fits : c.prot_b < 2 ^ 2
  pub room_fits : c.room < 2 ^ 10
  pub some_service : 1 ≤ length c.services
  pub each_service : All ServiceInLines c.services
  pub some_stream : 1 ≤ length c.streams
  pub few_streams : length c.streams ≤ 4
  pub each_stream : All StreamInLines c.streams
  pub clock_fits : IfSome c.clock ClockInLines
  pub some_block : 1 ≤ length c.blocks
  pub few_blocks : length c.blocks ≤ 64
  pub each_block : All TimedInLines c.blocks

-- The lines of a text, and the files that it names, can give this plan.
pub record InLines (plan : Plan) : Type 0 where
  pub carry_fits : CarryFits plan.carry
  pub seq_fits : plan.seq < 2 ^ 16
  pub dlfc_fits : plan.dlfc < 2 ^ 32
  pub some_frames : 1 ≤ plan.length
  pub few_frames : plan.length ≤ 1000000
  pub some_config : 1 ≤ length plan.configs
  pub few_configs : length plan.configs ≤ 16
  pub each_config : All ConfigInLines plan.configs

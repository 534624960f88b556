-- Which plans are schedules, and the first fault of one that isn't.
use Rattle.std.specs.Prelude.{ℕ, ◌≡◌, ◌+◌, ◌-◌, ◌*◌, ◌==◌, ◌&&◌, ◌||◌, ◌≤◌, nat_le, nat_lt, not, min, All, Bool, true, false, if◌then◌else◌, List, [], ◌∷◌, ◌++◌, length, Option, Some, None}
use Rattle.dcp_pft.specs.Limits.{most_packet}
use Rattle.drm_schedule.specs.declared.invalid.Invalid.{Invalid}
use Rattle.drm_schedule.specs.declared.invalid.Place.{Place}
use Rattle.drm_schedule.specs.declared.invalid.Place.TheVariants as place
use Rattle.drm_schedule.specs.declared.invalid.Reason.{Reason}
use Rattle.drm_schedule.specs.declared.invalid.Reason.TheVariants as reason
use Rattle.drm_schedule.specs.declared.stream.Content.{Content}
use Rattle.drm_schedule.specs.declared.stream.Content.TheVariants.{Fill, File}
use Rattle.drm_schedule.specs.declared.stream.Stream.{Stream}
use Rattle.drm_fac.specs.declared.mode.Mode.{Mode}
use Rattle.drm_fac.specs.declared.mode.Mode.TheVariants.{A, B, C, D}
use Rattle.drm_schedule.specs.declared.timed.Timed.{Timed}
use Rattle.drm_schedule.specs.declared.config.Config.{Config}
use Rattle.drm_schedule.specs.declared.plan.Plan.{Plan}
use Rattle.drm_schedule.specs.Ranges.{InLines}
use Rattle.drm_schedule.specs.Sizes.{has_no_room, HasRoom, packet_len, stream_size}
use Rattle.drm_schedule.specs.Announcement.{lacks_announcement}
use Rattle.drm_schedule.specs.Services.{services_disagree, block_disagrees}

-- the first start isn't 0; a later one isn't above the one before, or is at least the length
abbrev pub starts_wrongly : ℕ → Option Config → Config → Bool
starts_wrongly len None c = not (c.start == 0)
starts_wrongly len (Some before) c = nat_le c.start before.start || nat_le len c.start

-- the first countdown isn't 0; a later one is 0, or begins below the start before
abbrev pub counts_wrongly : Option Config → Config → Bool
counts_wrongly None c = not (c.countdown == 0)
counts_wrongly (Some before) c = c.countdown == 0 || nat_lt c.start (before.start + c.countdown)

-- modes C and D have the occupancies 3 and 5 alone
abbrev pub is_narrow : Mode → Bool
is_narrow A = false
is_narrow B = false
is_narrow C = true
is_narrow D = true

abbrev pub has_no_such_occupancy : Config → Bool
has_no_such_occupancy c = is_narrow c.mode && not (c.occupancy == 3) && not (c.occupancy == 5)

abbrev pub is_hierarchical : Config → Bool
is_hierarchical c = c.msc == 1 || c.msc == 2

-- a file has fewer bytes than so many frames take
abbrev pub is_short : ℕ → Stream → Bool
is_short frames s = of s.content
  where
    of : Content → Bool
    of (Fill byte) = false
    of (File name bytes) = nat_lt (length bytes) (stream_size s * frames)

-- a row of a table: whether there is this fault
abbrev pub row : Bool → ℕ → Place → Reason → Bool × Invalid
row holds k at why = (holds, record { config = k; place = at; reason = why })

-- each stream from the j-th on whose file is too short
abbrev pub content_rows : ℕ → ℕ → ℕ → List Stream → List (Bool × Invalid)
content_rows k j frames [] = []
content_rows k j frames (s ∷ streams) = row (is_short frames s) k (place.Stream j) reason.ContentShort ∷ content_rows k (j + 1) frames streams

-- the first block doesn't begin with the configuration; a later one doesn't begin behind the one before, or not before `end`
abbrev pub begins_wrongly : Config → ℕ → Option Timed → Timed → Bool
begins_wrongly c end None block = not (block.from == 0)
begins_wrongly c end (Some before) block = nat_le block.from before.from || nat_le end (c.start + block.from)

-- each block from the j-th on, behind another, that begins wrongly
abbrev pub beginning_rows : ℕ → ℕ → Config → ℕ → Option Timed → List Timed → List (Bool × Invalid)
beginning_rows k j c end before [] = []
beginning_rows k j c end before (block ∷ blocks) =
    row (begins_wrongly c end before block) k (place.Block j) reason.Block ∷ beginning_rows k (j + 1) c end (Some block) blocks

-- each block from the j-th on for which this holds
abbrev pub block_rows : ℕ → ℕ → (Timed → Bool) → Reason → List Timed → List (Bool × Invalid)
block_rows k j holds why [] = []
block_rows k j holds why (block ∷ blocks) = row (holds block) k (place.Block j) why ∷ block_rows k (j + 1) holds why blocks

-- the start of the next configuration, or else the length of the schedule
abbrev pub next_start : ℕ → List Config → ℕ
next_start len [] = len
next_start len (next ∷ more) = next.start

-- where a configuration ends: at the next start, and at the end of the schedule at the latest
abbrev pub end_before : ℕ → List Config → ℕ
end_before len more = min (next_start len more) len

-- what can be wrong with the place of the k-th configuration, behind the one before it
abbrev pub place_rows : Plan → ℕ → Option Config → Config → List (Bool × Invalid)
place_rows plan k before c =
    row (starts_wrongly plan.length before c) k place.Config reason.Order
    ∷ row (counts_wrongly before c) k place.Config reason.Countdown
    ∷ []

-- with its own lines
abbrev pub channel_rows : ℕ → Config → List (Bool × Invalid)
channel_rows k c =
    row (has_no_such_occupancy c) k place.Occupancy reason.Occupancy
    ∷ row (is_hierarchical c) k place.Msc reason.Hierarchical
    ∷ row (services_disagree c) k place.Config reason.Services
    ∷ []

-- with its announcement, its packets and its files
abbrev pub carried_rows : Plan → ℕ → Option Config → Config → List Config → List (Bool × Invalid)
carried_rows plan k before c more =
    row (lacks_announcement before c) k place.Config reason.Fit
    ∷ row (nat_lt (most_packet plan.carry) (packet_len c true)) k place.Config reason.PacketSize
    ∷ content_rows k 0 (3 * (end_before plan.length more - c.start)) c.streams

-- All that can be wrong with the k-th configuration, behind the one before it and in front of these. Each row is looked at in all
-- blocks before the next one.
abbrev pub rows : Plan → ℕ → Option Config → Config → List Config → List (Bool × Invalid)
rows plan k before c more =
    place_rows plan k before c
    ++ (beginning_rows k 0 c (next_start plan.length more) None c.blocks
    ++ (channel_rows k c
    ++ (block_rows k 0 (block_disagrees c) reason.Services c.blocks
    ++ (block_rows k 0 (has_no_room c) reason.Fit c.blocks
    ++ carried_rows plan k before c more))))

-- the fault of the first row that holds
abbrev pub first_fault : List (Bool × Invalid) → Option Invalid
first_fault [] = None
first_fault (r ∷ more) = if r.0 then Some r.1 else first_fault more

abbrev pub first_of : Option Invalid → Option Invalid → Option Invalid
first_of None other = other
first_of (Some fault) other = Some fault

-- configuration by configuration, from the k-th on
unfoldable pub first_invalid_from : Plan → ℕ → Option Config → List Config → Option Invalid
first_invalid_from plan k before [] = None
first_invalid_from plan k before (c ∷ more) =
    first_of (first_fault (rows plan k before c more)) (first_invalid_from plan (k + 1) (Some c) more)

abbrev pub first_invalid : Plan → Option Invalid
first_invalid plan = first_invalid_from plan 0 None plan.configs

-- A plan that is valid, of what the lines of a text can give.
pub record IsSchedule (plan : Plan) : Type 0 where
  pub in_lines : InLines plan
  pub valid : first_invalid plan ≡ None

-- Each block begins behind the one before it and before `end`, and the first one with the configuration.
abbrev pub BeginRightly : Config → ℕ → Option Timed → List Timed → Type 0
BeginRightly c end before [] = Unit {0}
BeginRightly c end before (block ∷ blocks) = (begins_wrongly c end before block ≡ false) × BeginRightly c end (Some block) blocks

-- A configuration, behind the one before it and in front of these, to which no row of the table applies.
pub record IsFaultless (plan : Plan) (before : Option Config) (c : Config) (more : List Config) : Type 0 where
  pub order : starts_wrongly plan.length before c ≡ false
  pub countdown_fits : counts_wrongly before c ≡ false
  pub blocks_begin : BeginRightly c (next_start plan.length more) None c.blocks
  pub occupancy_fits : has_no_such_occupancy c ≡ false
  pub not_hierarchical : is_hierarchical c ≡ false
  pub services_agree : services_disagree c ≡ false
  pub blocks_agree : All (λ (block : Timed). block_disagrees c block ≡ false) c.blocks
  pub blocks_have_room : HasRoom c
  pub announced : lacks_announcement before c ≡ false
  pub packet : packet_len c true ≤ most_packet plan.carry
  pub files : All (λ (s : Stream). is_short (3 * (end_before plan.length more - c.start)) s ≡ false) c.streams

-- each configuration is without fault in its place
abbrev pub AreFaultless : Plan → Option Config → List Config → Type 0
AreFaultless plan before [] = Unit {0}
AreFaultless plan before (c ∷ more) = IsFaultless plan before c more × AreFaultless plan (Some c) more

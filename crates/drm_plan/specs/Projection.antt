-- The plan that lines give: a setting is what the first line of its keyword says, the rest are lists in line order.
use Rattle.std.specs.Prelude.{ℕ, Bool, false, List, [], ◌∷◌, ◌++◌, map, Option, Some, None, if◌then◌else◌}
use Rattle.std.specs.List.{filter_map}
use Rattle.std.specs.Option.{option_to_list}
use Rattle.drm_fac.specs.declared.service.Service.{Service}
use Rattle.drm_sdc.specs.declared.entity.Entity.{Entity}
use Rattle.dcp_pft.specs.declared.carry.Carry.{Carry}
use Rattle.dcp_pft.specs.declared.carry.Carry.TheVariants as carries
use Rattle.drm_fac.specs.declared.mode.Mode.{Mode}
use Rattle.drm_fac.specs.declared.mode.Mode.TheVariants as modes
use Rattle.drm_schedule.specs.declared.config.Clock.{Clock}
use Rattle.drm_schedule.specs.declared.timed.Timed.{Timed}
use Rattle.drm_schedule.specs.declared.config.Config.{Config}
use Rattle.drm_schedule.specs.declared.stream.Stream.{Stream}
use Rattle.drm_schedule.specs.declared.plan.Plan.{Plan}
use Rattle.plan_grammar.specs.declared.line.Line.{Line}
use Rattle.plan_grammar.specs.declared.line.Line.TheVariants as lines
use Rattle.plan_rows.specs.declared.keyword.Keyword.{Keyword}
use Rattle.plan_rows.specs.declared.keyword.Keyword.TheVariants as keywords
use Rattle.plan_rows.specs.Keywords.{same}
use Rattle.plan_grammar.specs.Said.{keyword_said}
use Rattle.plan_rules.specs.declared.said.ParsedLine.{ParsedLine}
use Rattle.plan_rules.specs.declared.said.ConfigLines.{ConfigLines}
use Rattle.plan_rules.specs.declared.said.ParsedText.{ParsedText}
use Rattle.drm_plan.specs.declared.places.LineNumbers.{LineNumbers}
use Rattle.drm_plan.specs.declared.files.FileRef.{FileRef}
use Rattle.drm_plan.specs.Files.{config_files}

-- the first line of this keyword
abbrev pub first_said : Keyword → List ParsedLine → Option ParsedLine
first_said keyword [] = None
first_said keyword (s ∷ said) = if same (keyword_said s.says) keyword then Some s else first_said keyword said

-- the number of the first line of this keyword, 0 where there is none
abbrev pub line_of : Keyword → List ParsedLine → ℕ
line_of keyword said = of (first_said keyword said)
  where
    of : Option ParsedLine → ℕ
    of None = 0
    of (Some s) = s.line

-- what it says
abbrev pub content : Option ParsedLine → Option Line
content None = None
content (Some s) = Some s.says

abbrev pub first_line : Keyword → List ParsedLine → Option Line
first_line keyword said = content (first_said keyword said)

-- What the line of a setting says. Where there is none, which a configuration that lacks nothing never shows, it is the
-- first value of its kind.
abbrev pub mode_in : Option Line → Mode
mode_in (Some (lines.Mode mode)) = mode
mode_in _ = modes.A

abbrev pub occupancy_in : Option Line → ℕ
occupancy_in (Some (lines.Occupancy n)) = n
occupancy_in _ = 0

abbrev pub short_depth_in : Option Line → Bool
short_depth_in (Some (lines.Depth short)) = short
short_depth_in _ = false

abbrev pub msc_in : Option Line → ℕ
msc_in (Some (lines.Msc n)) = n
msc_in _ = 0

abbrev pub qam4_in : Option Line → Bool
qam4_in (Some (lines.Sdc qam4)) = qam4
qam4_in _ = false

abbrev pub prot_a_in : Option Line → ℕ
prot_a_in (Some (lines.Protection a b)) = a
prot_a_in _ = 0

abbrev pub prot_b_in : Option Line → ℕ
prot_b_in (Some (lines.Protection a b)) = b
prot_b_in _ = 0

abbrev pub room_in : Option Line → ℕ
room_in (Some (lines.Room n)) = n
room_in _ = 0

-- a configuration may have no clock
abbrev pub clock_in : Option Line → Option Clock
clock_in (Some (lines.Clock clock)) = Some clock
clock_in _ = None

-- what is a list: each line says one more
abbrev pub service_said : Line → Option Service
service_said (lines.Service service) = Some service
service_said _ = None

abbrev pub stream_said : Line → Option Stream
stream_said (lines.Stream stream) = Some stream
stream_said _ = None

abbrev pub services_in : List ParsedLine → List Service
services_in said = filter_map (λ s. service_said s.says) said

abbrev pub streams_in : List ParsedLine → List Stream
streams_in said = filter_map (λ s. stream_said s.says) said

-- the entities of the lines up to the next block line
abbrev pub entities_until : List ParsedLine → List Entity
entities_until [] = []
entities_until (s ∷ said) = of s.says (entities_until said)
  where
    of : Line → List Entity → List Entity
    of (lines.Block from) entities = []
    of (lines.Entity entity) entities = entity ∷ entities
    of _ entities = entities

-- each block line with the entities of the lines behind it
abbrev pub timed_in : List ParsedLine → List Timed
timed_in [] = []
timed_in (s ∷ said) = of s.says (entities_until said) (timed_in said)
  where
    of : Line → List Entity → List Timed → List Timed
    of (lines.Block from) entities blocks = record { from = from; entities = entities } ∷ blocks
    of _ entities blocks = blocks

-- where no line begins a block, all entities are of one, which begins with the configuration
abbrev pub or_one : List Entity → List Timed → List Timed
or_one entities [] = record { from = 0; entities = entities } ∷ []
or_one entities (block ∷ blocks) = block ∷ blocks

abbrev pub blocks_in : List ParsedLine → List Timed
blocks_in said = or_one (entities_until said) (timed_in said)

-- the numbers of the stream lines
abbrev pub stream_line : ParsedLine → Option ℕ
stream_line s = of s.says
  where
    of : Line → Option ℕ
    of (lines.Stream stream) = Some s.line
    of _ = None

abbrev pub stream_lines_in : List ParsedLine → List ℕ
stream_lines_in said = filter_map stream_line said

-- the numbers of the block lines
abbrev pub block_line : ParsedLine → Option ℕ
block_line s = of s.says
  where
    of : Line → Option ℕ
    of (lines.Block from) = Some s.line
    of _ = None

abbrev pub block_lines_in : List ParsedLine → List ℕ
block_lines_in said = filter_map block_line said

-- the config line stands for a block line where there is none
abbrev pub or_line : ℕ → List ℕ → List ℕ
or_line n [] = n ∷ []
or_line n (line ∷ lines) = line ∷ lines

abbrev pub config_of : ConfigLines → Config
config_of block = record {
  start = block.start;
  countdown = block.countdown;
  mode = mode_in (first_line keywords.Mode block.lines);
  occupancy = occupancy_in (first_line keywords.Occupancy block.lines);
  short_depth = short_depth_in (first_line keywords.Depth block.lines);
  msc = msc_in (first_line keywords.Msc block.lines);
  qam4 = qam4_in (first_line keywords.Sdc block.lines);
  prot_a = prot_a_in (first_line keywords.Protection block.lines);
  prot_b = prot_b_in (first_line keywords.Protection block.lines);
  room = room_in (first_line keywords.Room block.lines);
  services = services_in block.lines;
  streams = streams_in block.lines;
  clock = clock_in (first_line keywords.Clock block.lines);
  blocks = blocks_in block.lines;
}

-- the lines of a configuration that a fault can name
abbrev pub places_of : ConfigLines → LineNumbers
places_of block = record {
  config = block.line;
  occupancy = line_of keywords.Occupancy block.lines;
  msc = line_of keywords.Msc block.lines;
  blocks = or_line block.line (block_lines_in block.lines);
  streams = stream_lines_in block.lines;
}

-- all configurations, in the order of their lines
abbrev pub blocks_of : ParsedText → List ConfigLines
blocks_of read = read.closed ++ option_to_list read.current

abbrev pub carry_in : Option Line → Carry
carry_in (Some (lines.Carry carry)) = carry
carry_in _ = carries.Plain

abbrev pub seq_in : Option Line → ℕ
seq_in (Some (lines.First seq dlfc)) = seq
seq_in _ = 0

abbrev pub dlfc_in : Option Line → ℕ
dlfc_in (Some (lines.First seq dlfc)) = dlfc
dlfc_in _ = 0

abbrev pub length_in : Option Line → ℕ
length_in (Some (lines.Length n)) = n
length_in _ = 1

-- the plan that lines give, its files without their bytes
abbrev pub plan_of : ParsedText → Plan
plan_of read = record {
  carry = carry_in (first_line keywords.Carry read.front);
  seq = seq_in (first_line keywords.First read.front);
  dlfc = dlfc_in (first_line keywords.First read.front);
  length = length_in (first_line keywords.Length read.front);
  configs = map config_of (blocks_of read);
}

-- a plan, the lines of each of its configurations that a fault can name, and its files in the order of their lines
pub record DraftContents : Type 0 where
  pub plan : Plan
  pub places : List LineNumbers
  pub files : List FileRef

abbrev pub drafted : ParsedText → DraftContents
drafted read = record { plan = plan_of read; places = map places_of (blocks_of read); files = config_files 0 (map config_of (blocks_of read)) }

-- The canonical text of a schedule: its lines in their order, each in its canonical form.
use Rattle.std.specs.Prelude.{ℕ, List, [], ◌∷◌, ◌++◌, map, Option, Some, None}
use Rattle.std.specs.List.{flat_map}
use Rattle.drm_fac.specs.declared.service.Service.{Service}
use Rattle.drm_sdc.specs.declared.entity.Entity.{Entity}
use Rattle.drm_schedule.specs.declared.config.Clock.{Clock}
use Rattle.drm_schedule.specs.declared.timed.Timed.{Timed}
use Rattle.drm_schedule.specs.declared.config.Config.{Config}
use Rattle.drm_schedule.specs.declared.stream.Stream.{Stream}
use Rattle.drm_schedule.specs.declared.plan.Plan.{Plan}
use Rattle.plan_grammar.specs.declared.version.Version.TheVariants.{Two}
use Rattle.plan_grammar.specs.declared.line.Line.{Line}
use Rattle.plan_grammar.specs.declared.line.Line.TheVariants as lines
use Rattle.plan_grammar.specs.Said.{line_text}

-- the four first lines
abbrev pub front_lines : Plan → List Line
front_lines plan = lines.Version Two ∷ lines.Carry plan.carry ∷ lines.First plan.seq plan.dlfc ∷ lines.Length plan.length ∷ []

-- the config line and the settings after it
abbrev pub settings_lines : Config → List Line
settings_lines c =
    lines.Config c.start c.countdown ∷ lines.Mode c.mode ∷ lines.Occupancy c.occupancy ∷ lines.Depth c.short_depth ∷ lines.Msc c.msc
    ∷ lines.Sdc c.qam4 ∷ lines.Protection c.prot_a c.prot_b ∷ lines.Room c.room ∷ []

abbrev pub clock_lines : Option Clock → List Line
clock_lines None = []
clock_lines (Some clock) = lines.Clock clock ∷ []

abbrev pub service_lines : List Service → List Line
service_lines services = map (λ s. lines.Service s) services

abbrev pub stream_lines : List Stream → List Line
stream_lines streams = map (λ s. lines.Stream s) streams

abbrev pub entity_lines : List Entity → List Line
entity_lines entities = map (λ e. lines.Entity e) entities

-- the block line, and the lines of its entities
abbrev pub block_lines : Timed → List Line
block_lines block = lines.Block block.from ∷ entity_lines block.entities

-- the lines of a configuration
abbrev pub config_lines : Config → List Line
config_lines c = settings_lines c ++ (service_lines c.services ++ (stream_lines c.streams ++ (clock_lines c.clock ++ flat_map block_lines c.blocks)))

-- all lines of a schedule
abbrev pub plan_lines : Plan → List Line
plan_lines plan = front_lines plan ++ flat_map config_lines plan.configs

-- these lines, each with its line feed
unfoldable pub text_of : List Line → List ℕ
text_of all = flat_map line_text all

abbrev pub canonical : Plan → List ℕ
canonical plan = text_of (plan_lines plan)

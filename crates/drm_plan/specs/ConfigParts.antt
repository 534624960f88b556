-- What the lines of a configuration list, one line after another.
use Rattle.std.specs.Prelude.{ℕ, ◌≡◌, List, [], ◌∷◌, ◌++◌}
use Rattle.drm_sdc.specs.declared.entity.Entity.{Entity}
use Rattle.drm_schedule.specs.declared.timed.Timed.{Timed}
use Rattle.drm_schedule.specs.declared.config.Config.{Config}
use Rattle.plan_grammar.specs.declared.line.Line.{Line}
use Rattle.plan_grammar.specs.declared.line.Line.TheVariants as lines
use Rattle.plan_rules.specs.declared.said.ParsedLine.{ParsedLine}
use Rattle.plan_rules.specs.declared.said.ConfigLines.{ConfigLines}
use Rattle.drm_plan.specs.declared.places.LineNumbers.{LineNumbers}
use Rattle.drm_plan.specs.declared.configs.ConfigParts.{ConfigParts}
use Rattle.drm_plan.specs.Projection.{services_in, streams_in, stream_lines_in, entities_until, timed_in, block_lines_in, config_of, places_of}

abbrev pub no_parts : ConfigParts
no_parts = record { services = []; streams = []; stream_lines = []; entities = []; blocks = []; block_lines = [] }

abbrev pub parts_of : List ParsedLine → ConfigParts
parts_of said = record {
  services = services_in said;
  streams = streams_in said;
  stream_lines = stream_lines_in said;
  entities = entities_until said;
  blocks = timed_in said;
  block_lines = block_lines_in said;
}

-- the last block with these entities more
abbrev pub into_last : List Entity → List Timed → List Timed
into_last entities [] = []
into_last entities (block ∷ []) = record block { entities = block.entities ++ entities } ∷ []
into_last entities (block ∷ next ∷ more) = block ∷ into_last entities (next ∷ more)

-- what stands before the first block, with these entities more where there is none yet
abbrev pub before_first : List Timed → List Entity → List Entity → List Entity
before_first [] entities more = entities ++ more
before_first (block ∷ blocks) entities more = entities

abbrev pub more_by : ConfigParts → ℕ → Line → ConfigParts
more_by parts n (lines.Service service) = record parts { services = parts.services ++ service ∷ [] }
more_by parts n (lines.Stream stream) = record parts { streams = parts.streams ++ stream ∷ []; stream_lines = parts.stream_lines ++ n ∷ [] }
more_by parts n (lines.Block from) =
    record parts { blocks = parts.blocks ++ record { from = from; entities = [] } ∷ []; block_lines = parts.block_lines ++ n ∷ [] }
more_by parts n (lines.Entity entity) =
    record parts { entities = before_first parts.blocks parts.entities (entity ∷ []); blocks = into_last (entity ∷ []) parts.blocks }
more_by parts n _ = parts

-- with one more line
abbrev pub more : ConfigParts → ParsedLine → ConfigParts
more parts said = more_by parts said.line said.says

-- the configuration of these lines, and those that a fault of it can name
pub record ConfigMadeOf (config : Config) (places : LineNumbers) (block : ConfigLines) : Type 0 where
  pub config_is : config ≡ config_of block
  pub places_are : places ≡ places_of block

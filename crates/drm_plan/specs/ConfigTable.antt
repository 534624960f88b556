-- The configurations of a text, one after another.
use Rattle.std.specs.Prelude.{List, [], ◌∷◌, ◌++◌, map, length}
use Rattle.plan_rules.specs.declared.said.ConfigLines.{ConfigLines}
use Rattle.drm_plan.specs.declared.lists.ConfigTable.{ConfigTable}
use Rattle.drm_plan.specs.Files.{stream_files, config_files}
use Rattle.drm_plan.specs.Projection.{config_of, places_of}

abbrev pub no_lists : ConfigTable
no_lists = record { configs = []; places = []; files = [] }

-- with one more configuration
abbrev pub with_block : ConfigTable → ConfigLines → ConfigTable
with_block lists block = record {
  configs = lists.configs ++ config_of block ∷ [];
  places = lists.places ++ places_of block ∷ [];
  files = lists.files ++ stream_files (length lists.configs) 0 (config_of block).streams;
}

abbrev pub lists_of : List ConfigLines → ConfigTable
lists_of blocks = record { configs = map config_of blocks; places = map places_of blocks; files = config_files 0 (map config_of blocks) }

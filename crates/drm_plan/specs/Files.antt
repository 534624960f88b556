-- The files that the streams of a plan name, and what becomes of a plan when one of them comes.
use Rattle.std.specs.Prelude.{ℕ, ◌+◌, List, [], ◌∷◌, ◌++◌, map, Option, Some, None}
use Rattle.drm_schedule.specs.declared.config.Config.{Config}
use Rattle.drm_schedule.specs.declared.stream.Content.{Content}
use Rattle.drm_schedule.specs.declared.stream.Content.TheVariants.{Fill, File}
use Rattle.drm_schedule.specs.declared.stream.Stream.{Stream}
use Rattle.drm_schedule.specs.declared.plan.Plan.{Plan}
use Rattle.drm_plan.specs.declared.files.FileRef.{FileRef}
use Rattle.drm_plan.specs.Lookup.{at, changed}

-- this stream, where it takes its bytes from a file
abbrev pub file_here : ℕ → ℕ → Stream → List FileRef
file_here i j stream = of stream.content
  where
    of : Content → List FileRef
    of (Fill byte) = []
    of (File name bytes) = record { config = i; stream = j } ∷ []

-- the files of a configuration's streams, the first of which has number j
abbrev pub stream_files : ℕ → ℕ → List Stream → List FileRef
stream_files i j [] = []
stream_files i j (stream ∷ streams) = file_here i j stream ++ stream_files i (j + 1) streams

-- the files of configurations, the first of which has number i
abbrev pub config_files : ℕ → List Config → List FileRef
config_files i [] = []
config_files i (config ∷ configs) = stream_files i 0 config.streams ++ config_files (i + 1) configs

-- the content with these bytes, where it is a file
abbrev pub filled : List ℕ → Content → Content
filled bytes (Fill byte) = Fill byte
filled bytes (File name old) = File name bytes

abbrev pub filled_stream : List ℕ → Stream → Stream
filled_stream bytes stream = record stream { content = filled bytes stream.content }

abbrev pub filled_config : ℕ → List ℕ → Config → Config
filled_config j bytes config = record config { streams = changed (filled_stream bytes) j config.streams }

-- the plan with the bytes of this file
abbrev pub with_file : FileRef → List ℕ → Plan → Plan
with_file file bytes plan = record plan { configs = changed (filled_config file.stream bytes) file.config plan.configs }

abbrev pub name_in : Content → List ℕ
name_in (Fill byte) = []
name_in (File name bytes) = name

abbrev pub name_of_stream : Option Stream → List ℕ
name_of_stream None = []
name_of_stream (Some stream) = name_in stream.content

abbrev pub name_of_config : ℕ → Option Config → List ℕ
name_of_config j None = []
name_of_config j (Some config) = name_of_stream (at j config.streams)

-- the name that a stream gives
abbrev pub name_of : FileRef → Plan → List ℕ
name_of file plan = name_of_config file.stream (at file.config plan.configs)

abbrev pub emptied : Content → Content
emptied (Fill byte) = Fill byte
emptied (File name bytes) = File name []

abbrev pub without_bytes : Stream → Stream
without_bytes stream = record stream { content = emptied stream.content }

abbrev pub config_without_bytes : Config → Config
config_without_bytes config = record config { streams = map without_bytes config.streams }

-- the plan without the bytes of its files
abbrev pub without_files : Plan → Plan
without_files plan = record plan { configs = map config_without_bytes plan.configs }

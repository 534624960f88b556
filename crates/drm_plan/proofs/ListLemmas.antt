-- What lines list, with one more line, and what configurations give, with one more.
use Rattle.std.proofs.Common.{◌≡◌, ℕ, ◌+◌, suc, List, [], ◌∷◌, ◌++◌, length, map, refl, sym, ap, ◌∙◌, append_assoc, arith}
use Rattle.std.proofs.lemmas.List.{map_push}
use Rattle.std.proofs.lemmas.List.Elements.{filter_map-append}
use Rattle.drm_schedule.specs.declared.config.Config.{Config}
use Rattle.plan_grammar.specs.declared.line.Line.{Line}
use Rattle.plan_grammar.specs.declared.line.Line.TheVariants as lines
use Rattle.plan_rules.specs.declared.said.ParsedLine.{ParsedLine}
use Rattle.plan_rules.specs.declared.said.ConfigLines.{ConfigLines}
use Rattle.drm_plan.specs.declared.configs.ConfigParts.{ConfigParts}
use Rattle.drm_plan.specs.Files.{stream_files, config_files}
use Rattle.drm_plan.specs.ConfigParts.{no_parts, parts_of, into_last, before_first, more, more_by}
use Rattle.drm_plan.specs.ConfigTable.{lists_of, with_block}
use Rattle.drm_plan.specs.Projection.{service_said, stream_said, stream_line, block_line, config_of, places_of}
use Rattle.drm_plan.proofs.BlockLemmas.{until_append, timed_append, none_into, none_before}

append_nil : {X : Type 0} (xs : List X) → xs ++ [] ≡ xs
append_nil [] = refl
append_nil (x ∷ xs) = ap (λ l. x ∷ l) (append_nil xs)

-- the lists of lines, and then of one more
abbrev both_parts : ConfigParts → ConfigParts → ConfigParts
both_parts parts one = record {
  services = parts.services ++ one.services;
  streams = parts.streams ++ one.streams;
  stream_lines = parts.stream_lines ++ one.stream_lines;
  entities = before_first parts.blocks parts.entities one.entities;
  blocks = into_last one.entities parts.blocks ++ one.blocks;
  block_lines = parts.block_lines ++ one.block_lines;
}

appended : (said : List ParsedLine) (s : ParsedLine) → parts_of (said ++ s ∷ []) ≡ both_parts (parts_of said) (parts_of (s ∷ []))
appended said s =
    rw (
      filter_map-append (λ (x : ParsedLine). service_said x.says) said (s ∷ []),
      filter_map-append (λ (x : ParsedLine). stream_said x.says) said (s ∷ []),
      filter_map-append stream_line said (s ∷ []),
      filter_map-append block_line said (s ∷ []),
      until_append said (s ∷ []),
      timed_append said (s ∷ []),
    ) refl

-- of none of these there is one more
none_more : (parts : ConfigParts) → both_parts parts no_parts ≡ parts
none_more parts =
    rw (
      append_nil parts.services,
      append_nil parts.streams,
      append_nil parts.stream_lines,
      append_nil parts.block_lines,
      none_before parts.blocks parts.entities,
      none_into parts.blocks,
      append_nil parts.blocks,
    ) refl

by_kind : (parts : ConfigParts) (n : ℕ) (l : Line) → both_parts parts (parts_of (record { line = n; says = l } ∷ [])) ≡ more_by parts n l
by_kind parts n (lines.Service service) =
    rw (append_nil parts.streams, append_nil parts.stream_lines, append_nil parts.block_lines, none_before parts.blocks parts.entities, none_into parts.blocks, append_nil parts.blocks) refl
by_kind parts n (lines.Stream stream) =
    rw (append_nil parts.services, append_nil parts.block_lines, none_before parts.blocks parts.entities, none_into parts.blocks, append_nil parts.blocks) refl
by_kind parts n (lines.Block from) =
    rw (append_nil parts.services, append_nil parts.streams, append_nil parts.stream_lines, none_before parts.blocks parts.entities, none_into parts.blocks) refl
by_kind parts n (lines.Entity entity) =
    rw (
      append_nil parts.services,
      append_nil parts.streams,
      append_nil parts.stream_lines,
      append_nil parts.block_lines,
      append_nil (into_last (entity ∷ []) parts.blocks),
    ) refl
by_kind parts n _ = none_more parts

pub one_more : (said : List ParsedLine) (s : ParsedLine) → parts_of (said ++ s ∷ []) ≡ more (parts_of said) s
one_more said s = appended said s ∙ by_kind (parts_of said) s.line s.says

files_more : (i : ℕ) (configs : List Config) (config : Config) → config_files i (configs ++ config ∷ []) ≡ config_files i configs ++ stream_files (i + length configs) 0 config.streams
files_more i [] config =
    let here : i ≡ i + 0 = omega arith in
    append_nil (stream_files i 0 config.streams) ∙ ap (λ k. stream_files k 0 config.streams) here
files_more i (c ∷ configs) config =
    let step : i + 1 + length configs ≡ i + suc (length configs) = omega arith in
    ap (λ l. stream_files i 0 c.streams ++ l) (files_more (i + 1) configs config ∙ ap (λ k. config_files (i + 1) configs ++ stream_files k 0 config.streams) step)
    ∙ sym (append_assoc (stream_files i 0 c.streams) (config_files (i + 1) configs) (stream_files (i + suc (length configs)) 0 config.streams))

pub one_config_more : (blocks : List ConfigLines) (b : ConfigLines) → lists_of (blocks ++ b ∷ []) ≡ with_block (lists_of blocks) b
one_config_more blocks b =
    let from_zero : 0 + length (map config_of blocks) ≡ length (map config_of blocks) = omega arith in
    rw (map_push config_of blocks b, map_push places_of blocks b, files_more 0 (map config_of blocks) (config_of b), from_zero) refl

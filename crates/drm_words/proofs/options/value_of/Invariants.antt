use Rattle.std.proofs.Common.{◌≡◌, map, drop}
use Rattle.cli_syntax.specs.Arguing.{option_said}
use Rattle.drm_words.specs.Table.{value_of}
use Rattle.drm_words.proofs.options.value_of.Given as goal

abbrev pub invariant-loop-option : goal.invariant-loop-option
invariant-loop-option l = value_of l.name (map option_said l.options) ≡ value_of l.name (map option_said (drop l.option-index l.options))

use Rattle.std.proofs.Common.{◌≡◌, map, string_bytes, length}
use Rattle.std.specs.Prelude.{option_map}
use Rattle.cli_syntax.specs.Arguing.{read, option_said}
use Rattle.cli_syntax.proofs.ArgumentLemmas.{onto}
use Rattle.cli_syntax.proofs.arguments.read_arguments.Given as goal

-- all that the words say is what was read so far and then what the rest says
abbrev pub invariant-loop-text : goal.invariant-loop-text
invariant-loop-text l =
    read (map string_bytes l.words)
    ≡ option_map (onto (map (λ text. text.now) l.texts.items) (map option_said l.options.items)) (read (map string_bytes l.rest))

abbrev pub decreases-loop-text : goal.decreases-loop-text
decreases-loop-text l = length l.rest

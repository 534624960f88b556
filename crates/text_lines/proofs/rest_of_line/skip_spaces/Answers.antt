use Rattle.std.proofs.Common.{None, lit<, sym, ◌∙◌}
use Rattle.std.proofs.lemmas.Str.Pattern.{strip_prefix_char}
use Rattle.text_lines.proofs.BehindLemmas.{no_spaces}
use Rattle.text_lines.proofs.rest_of_line.skip_spaces.Goals as goal

pub returns : goal.returns
returns c =
    let none = strip_prefix_char 32 c.loop-rest.left.now None c.in_default.ensures.cases (lit< tt) in
    sym (no_spaces c.loop-rest.left.now none) ∙ c.loop-rest.invariant.1

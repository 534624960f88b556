use Rattle.plan_grammar.specs.Says.{line_said}
use Rattle.plan_lines.proofs.read.read_line.Goals as goal

pub returns : goal.returns
unfolding line_said
returns c = rw c.number.ensures at c.read_by.ensures

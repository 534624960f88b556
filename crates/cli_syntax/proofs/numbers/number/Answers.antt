use Rattle.std.proofs.Common.{◌∙◌}
use Rattle.cli_syntax.proofs.NumberLemmas.{parsed, unparsed}
use Rattle.cli_syntax.proofs.numbers.number.Goals as goal

pub returns-then-is_number : goal.returns-then-is_number
returns-then-is_number c = c.ok.ensures.value ∙ parsed c.args.text.now _ _ c.is_number.ensures c.if-is_number.true c.parse.ensures.value.0

pub returns-else-is_number : goal.returns-else-is_number
returns-else-is_number c = unparsed c.args.text.now _ c.is_number.ensures c.if-is_number.false

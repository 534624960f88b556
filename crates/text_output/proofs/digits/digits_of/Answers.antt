use Rattle.std.proofs.Common.{◌∙◌, ap₂}
use Rattle.text_output.specs.Digits.{paired}
use Rattle.text_output.proofs.Pairs.{paired_digits}
use Rattle.text_output.proofs.digits.digits_of.Goals as goal

pub returns-clause-digits : goal.returns-clause-digits
returns-clause-digits c = c.pairs.ensures.turns ∙ (ap₂ paired c.high_digits.ensures c.low_digits.ensures ∙ paired_digits c.args.bytes)

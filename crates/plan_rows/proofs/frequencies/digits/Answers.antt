use Rattle.std.proofs.Common.{None, lit<}
use Rattle.std.proofs.lemmas.Str.Pattern.{strip_prefix_char}
use Rattle.plan_rows.proofs.Elements.{no_plus}
use Rattle.plan_rows.proofs.frequencies.digits.Goals as goal

pub returns-in-None : goal.returns-in-None
returns-in-None c = no_plus c.args.element.now (strip_prefix_char 43 c.args.element.now None c.in-None.ensures.cases (lit< tt))

use Rattle.std.proofs.Common.{◌∙◌}
use Rattle.gf_field.proofs.Powers.{power_rest}
use Rattle.gf_field.proofs.element.Gf.power.Goals as goal

pub returns : goal.returns
returns c = c.power_of.ensures ∙ power_rest c.args.n

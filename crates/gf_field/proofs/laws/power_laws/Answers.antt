use Rattle.gf_field.proofs.Powers.{power_laws}
use Rattle.gf_field.proofs.laws.power_laws.Goals as goal

pub returns : goal.returns
returns c = power_laws

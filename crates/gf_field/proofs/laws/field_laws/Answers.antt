use Rattle.gf_field.proofs.Powers.{field_laws}
use Rattle.gf_field.proofs.laws.field_laws.Goals as goal

pub returns : goal.returns
returns c = field_laws

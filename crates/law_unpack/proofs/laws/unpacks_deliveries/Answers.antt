use Rattle.law_unpack.proofs.Deliveries.{unpacks_deliveries}
use Rattle.law_unpack.proofs.laws.unpacks_deliveries.Goals as goal

pub returns : goal.returns
returns c = unpacks_deliveries c.modulators_give.ensures

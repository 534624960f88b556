use Rattle.law_unpack.proofs.TextDeliveries.{texts_of_deliveries}
use Rattle.law_unpack.proofs.laws.texts_of_deliveries.Goals as goal

pub returns : goal.returns
returns c = texts_of_deliveries c.joins_messages.ensures c.modulators_give.ensures

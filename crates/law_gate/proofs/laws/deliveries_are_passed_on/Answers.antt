use Rattle.law_gate.proofs.Packets.{passes_deliveries}
use Rattle.law_gate.proofs.laws.deliveries_are_passed_on.Goals as goal

pub returns : goal.returns
returns c = passes_deliveries c.collecting.ensures c.one_reading.ensures

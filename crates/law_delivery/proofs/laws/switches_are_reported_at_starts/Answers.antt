use Rattle.law_delivery.proofs.SwitchLaws.{switches_at_starts}
use Rattle.law_delivery.proofs.laws.switches_are_reported_at_starts.Goals as goal

pub returns : goal.returns
returns c = switches_at_starts

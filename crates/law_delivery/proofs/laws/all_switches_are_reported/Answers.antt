use Rattle.law_delivery.proofs.SwitchLaws.{all_switches}
use Rattle.law_delivery.proofs.laws.all_switches_are_reported.Goals as goal

pub returns : goal.returns
returns c = all_switches

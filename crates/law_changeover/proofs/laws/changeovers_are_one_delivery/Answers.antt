use Rattle.law_changeover.proofs.Changeovers.{many_are_one}
use Rattle.law_changeover.proofs.laws.changeovers_are_one_delivery.Goals as goal

pub returns : goal.returns
returns c = many_are_one

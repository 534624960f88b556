use Rattle.law_agreement.proofs.Alike.{receivers_are}
use Rattle.law_agreement.proofs.laws.receivers_are_modulators.Goals as goal

pub returns : goal.returns
returns c = receivers_are

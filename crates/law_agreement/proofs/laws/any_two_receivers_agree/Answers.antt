use Rattle.law_agreement.proofs.Alike.{two_receivers}
use Rattle.law_agreement.proofs.laws.any_two_receivers_agree.Goals as goal

pub returns : goal.returns
returns c = two_receivers c.any_two_modulators_agree.ensures c.receivers_are_modulators.ensures

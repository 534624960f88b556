use Rattle.law_delivery.proofs.WaysLemmas.{two_ways}
use Rattle.law_changeover.proofs.Changeovers.{one_delivery}
use Rattle.law_changeover.proofs.laws.a_changeover_is_one_delivery.Goals as goal

pub returns : goal.returns
returns c = one_delivery two_ways

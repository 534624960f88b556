use Rattle.law_delivery.proofs.WaysLemmas.{two_ways}
use Rattle.law_delivery.proofs.laws.two_ways_are_one_delivery.Goals as goal

pub returns : goal.returns
returns c = two_ways

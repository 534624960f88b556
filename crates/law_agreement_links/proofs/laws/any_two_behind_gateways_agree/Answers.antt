use Rattle.law_agreement_links.proofs.Behind.{two_behind_gateways}
use Rattle.law_agreement_links.proofs.laws.any_two_behind_gateways_agree.Goals as goal

pub returns : goal.returns
returns c = two_behind_gateways c.a_schedule_reaches_behind_a_gateway.ensures c.any_two_modulators_agree.ensures

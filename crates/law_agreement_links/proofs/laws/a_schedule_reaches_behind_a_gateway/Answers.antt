use Rattle.law_agreement_links.proofs.Behind.{reaches_behind_gateway}
use Rattle.law_agreement_links.proofs.laws.a_schedule_reaches_behind_a_gateway.Goals as goal

pub returns : goal.returns
returns c = reaches_behind_gateway c.what_is_passed_on_comes_again.ensures

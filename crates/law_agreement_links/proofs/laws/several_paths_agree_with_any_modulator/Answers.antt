use Rattle.law_agreement_links.proofs.Together.{paths_agree}
use Rattle.law_agreement_links.proofs.laws.several_paths_agree_with_any_modulator.Goals as goal

pub returns : goal.returns
returns c = paths_agree c.several_paths_are_a_modulator.ensures c.any_two_modulators_agree.ensures

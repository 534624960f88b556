use Rattle.law_agreement_links.proofs.Together.{paths_are}
use Rattle.law_agreement_links.proofs.laws.several_paths_are_a_modulator.Goals as goal

pub returns : goal.returns
returns c = paths_are c.paths_report_deliveries.ensures

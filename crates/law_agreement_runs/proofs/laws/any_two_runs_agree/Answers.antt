use Rattle.law_agreement_runs.proofs.EachModulator.{two_runs}
use Rattle.law_agreement_runs.proofs.laws.any_two_runs_agree.Goals as goal

pub returns : goal.returns
returns c = two_runs c.any_two_modulators_agree.ensures c.runs_have_modulators.ensures

use Rattle.law_agreement_runs.proofs.EachModulator.{runs_have_modulators}
use Rattle.law_agreement_runs.proofs.laws.runs_have_modulators.Goals as goal

pub returns : goal.returns
returns c = runs_have_modulators c.receivers_are_modulators.ensures

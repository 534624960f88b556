use Rattle.law_collect.proofs.Runs.{steps_join}
use Rattle.law_collect.proofs.laws.steps_join.Goals as goal

pub returns : goal.returns
returns c = steps_join

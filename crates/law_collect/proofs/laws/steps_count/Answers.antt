use Rattle.law_collect.proofs.Runs.{steps_count}
use Rattle.law_collect.proofs.laws.steps_count.Goals as goal

pub returns : goal.returns
returns c = steps_count

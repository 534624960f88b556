use Rattle.law_collect.proofs.Runs.{steps_part}
use Rattle.law_collect.proofs.laws.steps_part.Goals as goal

pub returns : goal.returns
returns c = steps_part

use Rattle.law_data.proofs.WholeRuns.{answers_each}
use Rattle.law_data.proofs.laws.answers_each.Goals as goal

pub returns : goal.returns
returns c = answers_each

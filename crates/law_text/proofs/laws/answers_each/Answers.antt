use Rattle.law_text.proofs.WholeRuns.{answers_each}
use Rattle.law_text.proofs.laws.answers_each.Goals as goal

pub returns : goal.returns
returns c = answers_each

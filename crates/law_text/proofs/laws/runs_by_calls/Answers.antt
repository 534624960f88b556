use Rattle.law_text.proofs.WholeRuns.{runs_by_calls}
use Rattle.law_text.proofs.laws.runs_by_calls.Goals as goal

pub returns : goal.returns
returns c = runs_by_calls

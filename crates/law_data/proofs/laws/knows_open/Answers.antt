use Rattle.law_data.proofs.WholeRuns.{knows_open}
use Rattle.law_data.proofs.laws.knows_open.Goals as goal

pub returns : goal.returns
returns c = knows_open

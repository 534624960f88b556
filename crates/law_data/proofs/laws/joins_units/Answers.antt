use Rattle.law_data.proofs.WholeRuns.{joins_units}
use Rattle.law_data.proofs.laws.joins_units.Goals as goal

pub returns : goal.returns
returns c = joins_units

use Rattle.law_data.proofs.Counts.{tells_each_once}
use Rattle.law_data.proofs.laws.tells_each_once.Goals as goal

pub returns : goal.returns
returns c = tells_each_once

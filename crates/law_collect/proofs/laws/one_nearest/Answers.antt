use Rattle.law_collect.proofs.Numbers.{one_nearest}
use Rattle.law_collect.proofs.laws.one_nearest.Goals as goal

pub returns : goal.returns
returns c = one_nearest

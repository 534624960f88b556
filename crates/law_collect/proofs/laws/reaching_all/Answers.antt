use Rattle.law_collect.proofs.OneReading.{one_reading}
use Rattle.law_collect.proofs.Refusals.{reaching_all}
use Rattle.law_collect.proofs.laws.reaching_all.Goals as goal

pub returns : goal.returns
returns c = reaching_all one_reading

use Rattle.law_collect.proofs.OneReading.{one_reading}
use Rattle.law_collect.proofs.Refusals.{refusing}
use Rattle.law_collect.proofs.laws.refusing.Goals as goal

pub returns : goal.returns
returns c = refusing one_reading

use Rattle.law_collect.proofs.OneReading.{one_reading}
use Rattle.law_collect.proofs.laws.one_reading.Goals as goal

pub returns : goal.returns
returns c = one_reading

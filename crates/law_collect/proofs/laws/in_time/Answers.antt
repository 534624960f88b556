use Rattle.law_collect.proofs.SentInTime.{in_time}
use Rattle.law_collect.proofs.laws.in_time.Goals as goal

pub returns : goal.returns
returns c = in_time

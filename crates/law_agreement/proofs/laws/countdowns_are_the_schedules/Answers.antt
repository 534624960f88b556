use Rattle.law_agreement.proofs.Countdown.{countdowns}
use Rattle.law_agreement.proofs.laws.countdowns_are_the_schedules.Goals as goal

pub returns : goal.returns
returns c = countdowns

use Rattle.law_delivery.proofs.InTime.{given_in_time}
use Rattle.law_delivery.proofs.laws.frames_in_time_are_given.Goals as goal

pub returns : goal.returns
returns c = given_in_time

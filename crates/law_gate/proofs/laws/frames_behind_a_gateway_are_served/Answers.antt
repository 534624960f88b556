use Rattle.law_gate.proofs.Behind.{served_behind_one}
use Rattle.law_gate.proofs.laws.frames_behind_a_gateway_are_served.Goals as goal

pub returns : goal.returns
returns c = served_behind_one c.served_frames_are_printed.ensures c.modulators_give.ensures c.schedules_are_passed_on.ensures

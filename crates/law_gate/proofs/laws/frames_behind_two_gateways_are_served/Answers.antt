use Rattle.law_gate.proofs.Behind.{served_behind_two}
use Rattle.law_gate.proofs.laws.frames_behind_two_gateways_are_served.Goals as goal

pub returns : goal.returns
returns c = served_behind_two c.served_frames_are_printed.ensures c.what_is_passed_on_comes_again.ensures c.frames_behind_a_gateway_are_served.ensures

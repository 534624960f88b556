use Rattle.law_gate.proofs.Behind.{comes_again}
use Rattle.law_gate.proofs.laws.what_is_passed_on_comes_again.Goals as goal

pub returns : goal.returns
returns c = comes_again c.schedules_are_passed_on.ensures

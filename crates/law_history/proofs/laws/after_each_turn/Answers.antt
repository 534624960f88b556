use Rattle.law_history.proofs.Together.{after_turn}
use Rattle.law_history.proofs.laws.after_each_turn.Goals as goal

pub returns : goal.returns
returns c = after_turn

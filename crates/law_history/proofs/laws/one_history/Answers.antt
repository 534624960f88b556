use Rattle.law_history.proofs.OneLemmas.{come_once}
use Rattle.law_history.proofs.laws.one_history.Goals as goal

pub returns : goal.returns
returns c = come_once

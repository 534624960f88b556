use Rattle.law_history.proofs.Together.{stay_together}
use Rattle.law_history.proofs.laws.links_stay_together.Goals as goal

pub returns : goal.returns
returns c = stay_together

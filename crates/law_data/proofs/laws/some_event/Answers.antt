use Rattle.law_data.proofs.Totals.{some_event}
use Rattle.law_data.proofs.laws.some_event.Goals as goal

pub returns : goal.returns
returns c = some_event

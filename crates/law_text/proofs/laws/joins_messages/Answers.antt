use Rattle.law_text.proofs.WholeRuns.{joins_messages}
use Rattle.law_text.proofs.laws.joins_messages.Goals as goal

pub returns : goal.returns
returns c = joins_messages

use Rattle.law_history.proofs.AloneLinks.{each_alone}
use Rattle.law_history.proofs.laws.each_alone.Goals as goal

pub returns : goal.returns
returns c = each_alone

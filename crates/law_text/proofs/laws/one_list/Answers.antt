use Rattle.law_text.proofs.Sendings.{one_list}
use Rattle.law_text.proofs.laws.one_list.Goals as goal

pub returns : goal.returns
returns c = one_list

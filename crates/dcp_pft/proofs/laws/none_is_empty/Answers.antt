use Rattle.dcp_pft.proofs.Payloads.{none_is_empty}
use Rattle.dcp_pft.proofs.laws.none_is_empty.Goals as goal

pub returns : goal.returns
returns c = none_is_empty

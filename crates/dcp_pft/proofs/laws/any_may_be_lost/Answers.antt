use Rattle.dcp_pft.proofs.Carried.{any_may_be_lost}
use Rattle.dcp_pft.proofs.laws.any_may_be_lost.Goals as goal

pub returns : goal.returns
returns c = any_may_be_lost

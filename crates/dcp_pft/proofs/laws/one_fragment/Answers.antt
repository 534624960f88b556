use Rattle.dcp_pft.proofs.OneFragment.{one_datagram}
use Rattle.dcp_pft.proofs.laws.one_fragment.Goals as goal

pub returns : goal.returns
returns c = one_datagram

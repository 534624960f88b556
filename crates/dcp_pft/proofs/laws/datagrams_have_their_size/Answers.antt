use Rattle.dcp_pft.proofs.DatagramSizes.{sizes}
use Rattle.dcp_pft.proofs.laws.datagrams_have_their_size.Goals as goal

pub returns : goal.returns
returns c = sizes

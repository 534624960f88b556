use Rattle.dcp_pft.proofs.Shapes.{the_chunks_agree}
use Rattle.dcp_pft.proofs.laws.chunks_agree.Goals as goal

pub returns : goal.returns
returns c = the_chunks_agree

use Rattle.dcp_pft.proofs.Shapes.{all_are_taken}
use Rattle.dcp_pft.proofs.laws.all_taken.Goals as goal

pub returns : goal.returns
returns c = all_are_taken

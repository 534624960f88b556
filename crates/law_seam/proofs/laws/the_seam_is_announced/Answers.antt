use Rattle.law_seam.proofs.Below.{announces_below}
use Rattle.law_seam.proofs.laws.the_seam_is_announced.Goals as goal

pub returns : goal.returns
returns c = announces_below

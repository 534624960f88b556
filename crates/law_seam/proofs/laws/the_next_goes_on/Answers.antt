use Rattle.law_seam.proofs.AtSeam.{follows_behind}
use Rattle.law_seam.proofs.laws.the_next_goes_on.Goals as goal

pub returns : goal.returns
returns c = follows_behind

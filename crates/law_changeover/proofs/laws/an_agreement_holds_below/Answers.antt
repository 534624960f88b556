use Rattle.law_changeover.proofs.SameFrames.{holds_below}
use Rattle.law_changeover.proofs.laws.an_agreement_holds_below.Goals as goal

pub returns : goal.returns
returns c = holds_below

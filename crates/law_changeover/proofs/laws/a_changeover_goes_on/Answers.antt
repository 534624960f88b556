use Rattle.law_changeover.proofs.SameFrames.{sent_as_one}
use Rattle.law_changeover.proofs.laws.a_changeover_goes_on.Goals as goal

pub returns : goal.returns
returns c = sent_as_one

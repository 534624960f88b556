use Rattle.law_delivery.proofs.AllGiven.{all_frames}
use Rattle.law_delivery.proofs.laws.all_frames_are_given.Goals as goal

pub returns : goal.returns
returns c = all_frames

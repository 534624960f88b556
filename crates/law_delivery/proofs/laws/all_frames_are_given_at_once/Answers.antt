use Rattle.law_delivery.proofs.AllAtOnce.{all_at_once}
use Rattle.law_delivery.proofs.laws.all_frames_are_given_at_once.Goals as goal

pub returns : goal.returns
returns c = all_at_once c.collecting.ensures c.giving_ends.ensures

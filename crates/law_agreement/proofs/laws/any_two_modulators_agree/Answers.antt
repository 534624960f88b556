use Rattle.law_agreement.proofs.Alike.{two_modulators}
use Rattle.law_agreement.proofs.laws.any_two_modulators_agree.Goals as goal

pub returns : goal.returns
returns c = two_modulators c.served_frames_are_printed.ensures c.one_line.ensures

use Rattle.law_unpack.proofs.Ends.{unpacks_what_is_whole}
use Rattle.law_unpack.proofs.laws.unpacks_what_is_whole.Goals as goal

pub returns : goal.returns
returns c = unpacks_what_is_whole

use Rattle.law_data.proofs.LostPackets.{gives_what_is_whole}
use Rattle.law_data.proofs.laws.gives_what_is_whole.Goals as goal

pub returns : goal.returns
returns c = gives_what_is_whole

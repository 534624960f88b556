use Rattle.capture_reader.proofs.FrontLaws.{one_front, packet_alone, cut_size}
use Rattle.capture_reader.proofs.laws.one_front.Goals as goal

pub returns : goal.returns
returns c = one_front

use Rattle.law_capture.proofs.CapturePrefixes.{packets_front}
use Rattle.law_capture.proofs.laws.packets_in_front.Goals as goal

pub returns : goal.returns
returns c = packets_front

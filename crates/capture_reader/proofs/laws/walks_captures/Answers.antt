use Rattle.capture_reader.proofs.WalkingLemmas.{walks_captures}
use Rattle.capture_reader.proofs.laws.walks_captures.Goals as goal

pub returns : goal.returns
returns c = walks_captures

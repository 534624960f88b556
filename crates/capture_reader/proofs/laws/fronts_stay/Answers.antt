use Rattle.capture_reader.proofs.WalkingLemmas.{fronts_stay}
use Rattle.capture_reader.proofs.laws.fronts_stay.Goals as goal

pub returns : goal.returns
returns c = fronts_stay

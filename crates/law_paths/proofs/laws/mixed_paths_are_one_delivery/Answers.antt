use Rattle.law_paths.proofs.Mixing.{mixed}
use Rattle.law_paths.proofs.laws.mixed_paths_are_one_delivery.Goals as goal

pub returns : goal.returns
returns c = mixed

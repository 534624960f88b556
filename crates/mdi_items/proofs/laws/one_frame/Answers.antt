use Rattle.mdi_items.proofs.MdiLemmas.{one_mdi}
use Rattle.mdi_items.proofs.laws.one_frame.Goals as goal

pub returns : goal.returns
returns c = λ payload frame other is is_too. one_mdi frame other payload is is_too

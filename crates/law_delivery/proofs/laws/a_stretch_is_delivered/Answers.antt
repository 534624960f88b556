use Rattle.law_delivery.proofs.WaysLemmas.{any_stretch}
use Rattle.law_delivery.proofs.laws.a_stretch_is_delivered.Goals as goal

pub returns : goal.returns
returns c = any_stretch

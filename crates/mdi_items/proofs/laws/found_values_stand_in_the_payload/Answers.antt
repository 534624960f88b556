use Rattle.std.proofs.Common.{arith}
use Rattle.mdi_items.proofs.PayloadLemmas.{find_stands}
use Rattle.mdi_items.proofs.laws.found_values_stand_in_the_payload.Goals as goal

pub returns : goal.returns
returns c = λ payload name items found stand is. find_stands items name payload 0 found (omega arith) stand is

use Rattle.mdi_items.proofs.MdiLemmas.{mdi_or_fault}
use Rattle.mdi_items.proofs.laws.frame_or_fault.Goals as goal

pub returns : goal.returns
returns c = λ payload frame f is fault. mdi_or_fault frame f payload is fault

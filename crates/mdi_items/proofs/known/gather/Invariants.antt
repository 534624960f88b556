use Rattle.std.proofs.Common.{length}
use Rattle.dcp_tag.specs.PayloadPlace.{left}
use Rattle.mdi_items.proofs.WalkLemmas.{Walked}
use Rattle.mdi_items.proofs.known.gather.Given as goal

abbrev pub invariant-loop-item : goal.invariant-loop-item
invariant-loop-item l = Walked l.fn.payload l.items l.known

abbrev pub decreases-loop-item : goal.decreases-loop-item
decreases-loop-item l = length (left l.items)

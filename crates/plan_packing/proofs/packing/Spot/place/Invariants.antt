use Rattle.std.proofs.Common.{◌≡◌, ◌+◌, length}
use Rattle.plan_packing.specs.Packing.{first_that_holds, placed}
use Rattle.plan_packing.proofs.packing.Spot.place.Given as goal

abbrev pub invariant-loop-left : goal.invariant-loop-left
invariant-loop-left l = (first_that_holds l.size l.frame l.taken l.left ≡ placed l.free l.fn.self l.size) × (l.frame + length l.left ≡ length l.free)

abbrev pub decreases-loop-left : goal.decreases-loop-left
decreases-loop-left l = length l.left

use Rattle.std.proofs.Common.{◌≡◌, length}
use Rattle.std.specs.Prelude.{is_some}
use Rattle.plan_packing.specs.Packing.{packed, can_be_packed}
use Rattle.plan_packing.proofs.packing.can_be_packed.Given as goal

abbrev pub invariant-loop-left : goal.invariant-loop-left
invariant-loop-left l = is_some (packed l.free l.spot l.left) ≡ can_be_packed l.free l.sizes

abbrev pub decreases-loop-left : goal.decreases-loop-left
decreases-loop-left l = length l.left

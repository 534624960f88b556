use Rattle.std.proofs.Common.{◌≡◌, length}
use Rattle.drm_plan.specs.Projection.{first_said}
use Rattle.drm_plan.proofs.settings.find.Given as goal

abbrev pub invariant-loop-left : goal.invariant-loop-left
invariant-loop-left l = first_said l.keyword l.left ≡ first_said l.keyword l.lines

abbrev pub decreases-loop-left : goal.decreases-loop-left
decreases-loop-left l = length l.left

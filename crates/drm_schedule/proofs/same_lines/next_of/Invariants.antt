use Rattle.std.proofs.Common.{◌≡◌, ◌≤◌, length}
use Rattle.drm_schedule.specs.SameLines.{those_of}
use Rattle.drm_schedule.proofs.same_lines.next_of.Given as goal

-- those of the kind are among the entities that are left
abbrev pub invariant-loop-left : goal.invariant-loop-left
invariant-loop-left l = (those_of l.repeated l.left ≡ those_of l.repeated l.entities) × (length l.left ≤ length l.entities)

abbrev pub decreases-loop-left : goal.decreases-loop-left
decreases-loop-left l = length l.left

use Rattle.std.proofs.Common.{◌≡◌, length}
use Rattle.std.specs.Cmp.Lexicographic.{pointwise}
use Rattle.drm_schedule.specs.SameLines.{those_of, say_the_same}
use Rattle.drm_schedule.proofs.same_lines.differ.Given as goal

-- the lists are alike exactly where what is left of them is
abbrev pub invariant-loop-entity : goal.invariant-loop-entity
invariant-loop-entity l =
    pointwise say_the_same (those_of l.repeated l.left) (those_of l.repeated l.others)
    ≡ pointwise say_the_same (those_of l.repeated l.first) (those_of l.repeated l.other)

abbrev pub decreases-loop-entity : goal.decreases-loop-entity
decreases-loop-entity l = length l.left

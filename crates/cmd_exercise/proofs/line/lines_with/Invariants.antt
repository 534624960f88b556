use Rattle.std.proofs.Common.{◌≡◌, ◌≤◌, ◌+◌, length}
use Rattle.cmd_exercise.specs.Exercise.{lines_with}
use Rattle.cmd_exercise.proofs.line.lines_with.Given as goal

-- those counted, and those in the rest, are those of the text
abbrev pub invariant-loop-end : goal.invariant-loop-end
invariant-loop-end l = (l.count + lines_with l.front l.rest ≡ lines_with l.front l.text) × (l.count + length l.rest ≤ length l.text)

abbrev pub decreases-loop-end : goal.decreases-loop-end
decreases-loop-end l = length l.rest

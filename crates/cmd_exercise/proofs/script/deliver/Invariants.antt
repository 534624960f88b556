use Rattle.std.proofs.Common.{◌≡◌, ◌≤◌, ◌++◌}
use Rattle.cmd_exercise.specs.Exercise.{of_packet}
use Rattle.cmd_exercise.proofs.Delivering.{left_of}
use Rattle.cmd_exercise.proofs.script.deliver.Given as goal

-- what was delivered, and then the fragments that are left, is all of the packet
abbrev pub invariant-loop-left : goal.invariant-loop-left
invariant-loop-left l = (l.feed ++ left_of l.n l.packet l.count l.left ≡ l.fn.feed ++ of_packet l.n l.packet l.count) × (l.left ≤ l.count)

abbrev pub decreases-loop-left : goal.decreases-loop-left
decreases-loop-left l = l.left

use Rattle.std.proofs.Common.{◌≡◌}
use Rattle.cmd_exercise.proofs.Delivering.{up_to}
use Rattle.cmd_exercise.proofs.script.script_of.Given as goal

abbrev pub invariant-loop-packet : goal.invariant-loop-packet
invariant-loop-packet l = l.feed ≡ up_to l.n l.packet

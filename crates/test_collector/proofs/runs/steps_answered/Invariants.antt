use Rattle.std.proofs.Common.{◌≡◌, None}
use Rattle.test_collector.proofs.runs.steps_answered.Given as goal

abbrev pub invariant-loop-k : goal.invariant-loop-k
invariant-loop-k l = l.collector.end ≡ None

use Rattle.std.proofs.Common.{◌≡◌}
use Rattle.test_schedule.proofs.switches.follow.Given as goal

abbrev pub invariant-loop-k : goal.invariant-loop-k
invariant-loop-k g l = l.tracker.calls ≡ l.k-counter

use Rattle.std.proofs.Common.{ℕ, ◌<◌, get_or}
use Rattle.rs_erase.specs.Spaced.{IsLane}
use Rattle.rs_erase.proofs.runs.Runs.have.Given as goal

abbrev pub invariant-loop-j : goal.invariant-loop-j
invariant-loop-j l = (k : ℕ) → k < l.j → IsLane l.self.starts l.self.used l.distance (get_or l.places k 0) (get_or l.lanes k 0)

use Rattle.std.proofs.Common.{ℕ, ◌≤◌, List, length}
use Rattle.cmd_pack.specs.Units.{AreUnits}
use Rattle.cmd_pack.proofs.units.judge.Given as goal

-- the bytes before the rest are units
abbrev pub invariant-units : goal.invariant-units
invariant-units l = (units : List (List ℕ)) × AreUnits units l.rest l.bytes × (length l.rest ≤ length l.bytes)

abbrev pub decreases-units : goal.decreases-units
decreases-units l = length l.rest

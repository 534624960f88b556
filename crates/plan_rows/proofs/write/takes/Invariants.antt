use Rattle.std.proofs.Common.{◌≡◌, drop}
use Rattle.plan_rows.specs.Rows.{takes}
use Rattle.plan_rows.proofs.write.takes.Given as goal

abbrev pub invariant-loop-i : goal.invariant-loop-i
invariant-loop-i l = takes (drop l.i l.fields) (drop l.i l.values) ≡ takes l.fields l.values

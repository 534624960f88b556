use Rattle.std.proofs.Common.{◌≡◌, length}
use Rattle.plan_rows.specs.Tables.{row_for}
use Rattle.plan_rows.proofs.write.row_for.Given as goal

abbrev pub invariant-loop-left : goal.invariant-loop-left
invariant-loop-left l = row_for l.left l.version l.keyword l.values ≡ row_for l.table l.version l.keyword l.values

abbrev pub decreases-loop-left : goal.decreases-loop-left
decreases-loop-left l = length l.left

use Rattle.std.proofs.Common.{◌≡◌, ◌++◌, take, drop}
use Rattle.plan_rows.specs.Tables.{front}
use Rattle.plan_rows.proofs.rows.front.Given as goal

abbrev pub invariant-loop-i : goal.invariant-loop-i
invariant-loop-i l = take l.i l.cells ++ front (drop l.i l.cells) ≡ front l.cells

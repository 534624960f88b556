use Rattle.std.proofs.Common.{◌≡◌, ◌++◌, take}
use Rattle.plan_rows.proofs.Writing.{spaced}
use Rattle.plan_rows.proofs.write.write_fields.Given as goal

abbrev pub invariant-loop-i : goal.invariant-loop-i
invariant-loop-i l = l.out.items ≡ l.initial.out.items ++ spaced (take l.i l.fields) (take l.i l.values)

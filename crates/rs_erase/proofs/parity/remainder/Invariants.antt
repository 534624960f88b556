use Rattle.std.proofs.Common.{◌*◌, take}
use Rattle.rs_erase.specs.Register.{IsRemainder}
use Rattle.rs_erase.specs.Rows.{listed}
use Rattle.rs_erase.proofs.parity.remainder.Given as goal

abbrev pub invariant-loop-i : goal.invariant-loop-i
invariant-loop-i l = IsRemainder (take (16 * l.i) l.message) (listed l.register)

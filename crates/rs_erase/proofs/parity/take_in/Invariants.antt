use Rattle.std.proofs.Common.{◌*◌, ◌++◌, replicate}
use Rattle.rs_erase.specs.Register.{HasTaken}
use Rattle.rs_erase.specs.Rows.{listed}
use Rattle.rs_erase.proofs.parity.take_in.Given as goal

abbrev pub invariant-loop-four : goal.invariant-loop-four
invariant-loop-four l =
    HasTaken l.leaving (l.fn.register.second ++ (l.fn.register.third ++ replicate 16 0)) (listed l.next) (4 * l.four)

use Rattle.rs_erase.specs.Register.{HasFirstRemainder}
use Rattle.rs_erase.specs.Rows.{listed}
use Rattle.rs_erase.proofs.roots.first_remainder.Given as goal

abbrev pub invariant-loop-j : goal.invariant-loop-j
invariant-loop-j l = HasFirstRemainder l.word (listed l.remainder) l.j

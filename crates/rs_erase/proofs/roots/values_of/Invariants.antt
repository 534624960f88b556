use Rattle.rs_erase.specs.Rows.{listed}
use Rattle.rs_erase.proofs.RootSums.{HasSummed}
use Rattle.rs_erase.proofs.roots.values_of.Given as goal

abbrev pub invariant-loop-p : goal.invariant-loop-p
invariant-loop-p l = HasSummed l.symbols (listed l.values) l.p

use Rattle.rs_erase.proofs.FirstValues.{HasFirst}
use Rattle.rs_erase.proofs.roots.first_values_of.Given as goal

abbrev pub invariant-loop-p : goal.invariant-loop-p
invariant-loop-p l = HasFirst l.symbols l.values l.p

use Rattle.std.proofs.Common.{◌≡◌}
use Rattle.rs_erase.specs.Short.{symbol_sum}
use Rattle.rs_erase.specs.declared.first_remainders.TheConstants.{FIRST_REMAINDERS}
use Rattle.rs_erase.proofs.short_chunks.symbol_of.Given as goal

abbrev pub invariant-loop-j : goal.invariant-loop-j
invariant-loop-j l = l.sum ≡ symbol_sum FIRST_REMAINDERS l.chunk l.symbol l.j

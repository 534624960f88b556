use Rattle.std.proofs.Common.{◌≡◌, length}
use Rattle.std.specs.List.{All}
use Rattle.rs_patterns.specs.Patterns.{IsWellFormed}
use Rattle.rs_patterns.proofs.patterns.no_patterns.Given as goal

abbrev pub invariant-loop : goal.invariant-loop
invariant-loop l = record {
  each : length l.patterns.items ≡ l.counter;
  right : All IsWellFormed l.patterns.items;
}

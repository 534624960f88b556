use Rattle.std.proofs.Common.{◌≡◌, length}
use Rattle.rs_erase.specs.Spaced.{HasRows}
use Rattle.rs_erase.proofs.spacing.Spacing.prepare.Given as goal

abbrev pub invariant-loop-row : goal.invariant-loop-row
invariant-loop-row l = record {
  long : length l.table ≡ 4096;
  done : HasRows l.distance l.quotients l.table l.row;
}

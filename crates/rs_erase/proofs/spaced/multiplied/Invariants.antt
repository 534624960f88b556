use Rattle.std.proofs.Common.{ℕ, ◌≡◌, ◌<◌, get_or, length}
use Rattle.gf_field.specs.Field.{times}
use Rattle.rs_erase.proofs.spaced.multiplied.Given as goal

abbrev pub invariant-loop-p : goal.invariant-loop-p
invariant-loop-p l = record {
  long : length l.products ≡ 48;
  done : (q : ℕ) → q < l.p → get_or l.products q 0 ≡ times (get_or l.factors q 0) (get_or l.symbols q 0);
}

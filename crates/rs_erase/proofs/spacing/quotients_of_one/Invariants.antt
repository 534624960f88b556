use Rattle.std.proofs.Common.{ℕ, ◌≡◌, ◌<◌, bit_xor, get_or, length}
use Rattle.gf_field.specs.Field.{power, times}
use Rattle.rs_erase.proofs.spacing.quotients_of_one.Given as goal

abbrev pub invariant-loop-m : goal.invariant-loop-m
invariant-loop-m l = record {
  long : length l.quotients ≡ 255;
  done : (m : ℕ) → 0 < m → m < l.m → times (get_or l.quotients m 0) (bit_xor (power m) 1) ≡ 1;
}

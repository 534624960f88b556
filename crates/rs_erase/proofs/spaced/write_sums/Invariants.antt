use Rattle.std.proofs.Common.{ℕ, ◌≡◌, ◌+◌, ◌-◌, ◌*◌, ◌<◌, get_or, length}
use Rattle.rs_erase.specs.Spaced.{spaced_sum}
use Rattle.rs_erase.proofs.spaced.write_sums.Given as goal

abbrev pub invariant-loop-run : goal.invariant-loop-run
invariant-loop-run l = record {
  long : length l.sums ≡ 208;
  done : (r i : ℕ) → r < l.run → i < 16 → get_or l.starts r 0 < 207
      → get_or l.sums (16 * r + i) 0 ≡ spaced_sum l.table l.symbols (207 - get_or l.starts r 0) i 48;
}

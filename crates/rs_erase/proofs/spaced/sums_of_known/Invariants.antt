use Rattle.std.proofs.Common.{ℕ, ◌≡◌, ◌<◌, get_or}
use Rattle.rs_erase.specs.Spaced.{spaced_sum}
use Rattle.rs_erase.proofs.spaced.sums_of_known.Given as goal

abbrev pub invariant-loop-p : goal.invariant-loop-p
invariant-loop-p l = (i : ℕ) → i < 16 → get_or l.sums i 0 ≡ spaced_sum l.table l.symbols l.first i l.p

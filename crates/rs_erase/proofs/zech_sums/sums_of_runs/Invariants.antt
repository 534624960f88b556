use Rattle.std.proofs.Common.{ℕ, ◌≡◌, ◌*◌, ◌<◌, ◌≤◌, get_or, length}
use Rattle.rs_erase.specs.Zech.{runs_sum}
use Rattle.rs_erase.specs.declared.zech_logarithms.TheConstants.{ZECH_LOGARITHMS}
use Rattle.rs_erase.proofs.zech_sums.sums_of_runs.Given as goal

abbrev pub invariant-loop-run : goal.invariant-loop-run
invariant-loop-run l = record {
  long : length l.sums ≡ 256;
  summed : (b : ℕ) → b < 255 → get_or l.sums b 0 ≡ runs_sum ZECH_LOGARITHMS l.distance b l.starts l.lens l.run;
  small : (b : ℕ) → b < 256 → get_or l.sums b 0 ≤ 200000 * l.run;
}

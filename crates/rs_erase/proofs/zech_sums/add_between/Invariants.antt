use Rattle.std.proofs.Common.{ℕ, ◌≡◌, ◌+◌, ◌-◌, ◌<◌, ◌≤◌, get_or, length}
use Rattle.rs_erase.proofs.zech_sums.add_between.Given as goal

abbrev pub invariant-loop-b : goal.invariant-loop-b
invariant-loop-b l = record {
  long : length l.sums ≡ 256;
  done : (k : ℕ) → k < l.b → get_or l.sums k 0 ≡ get_or l.fn.sums k 0 + (get_or l.running (l.high + k) 0 - get_or l.running (l.low + k) 0);
  rest : (k : ℕ) → l.b ≤ k → get_or l.sums k 0 ≡ get_or l.fn.sums k 0;
}

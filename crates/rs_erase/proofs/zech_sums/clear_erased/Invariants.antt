use Rattle.std.proofs.Common.{ℕ, ◌≡◌, ◌≢◌, ◌+◌, ◌<◌, get_or, length}
use Rattle.rs_erase.proofs.zech_sums.clear_erased.Given as goal

abbrev pub invariant-loop-place : goal.invariant-loop-place
invariant-loop-place l = record {
  long : length l.factors ≡ 48;
  cleared : (p j : ℕ) → p < 48 → j < l.place-index → get_or l.places j 0 ≡ 207 + p → get_or l.factors p 0 ≡ 0;
  others : (p : ℕ) → p < 48 → ((j : ℕ) → j < l.place-index → get_or l.places j 0 ≢ 207 + p) → get_or l.factors p 0 ≡ get_or l.fn.factors p 0;
}

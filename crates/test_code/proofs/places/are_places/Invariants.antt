use Rattle.std.proofs.Common.{ℕ, ◌+◌, ◌<◌, get_or}
use Rattle.test_code.proofs.places.are_places.Given as goal

abbrev pub invariant-loop-i : goal.invariant-loop-i
invariant-loop-i l = record {
  below : (k : ℕ) → k < l.i → get_or l.places k 0 < 255;
  rising : (k : ℕ) → k + 1 < l.i → get_or l.places k 0 < get_or l.places (k + 1) 0;
}

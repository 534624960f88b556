use Rattle.std.proofs.Common.{◌≡◌, ◌<◌, ℕ, get_or, length}
use Rattle.rs_erase.proofs.roots.syndromes.Given as goal

abbrev pub invariant-loop-j : goal.invariant-loop-j
invariant-loop-j l = record {
  long : length l.value-items ≡ 48;
  done : (k : ℕ) → k < l.j → get_or l.value-items k 0 ≡ get_or l.bytes k 0;
}

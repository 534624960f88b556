use Rattle.std.proofs.Common.{ℕ, ◌≡◌, ◌+◌, ◌-◌, ◌*◌, ◌%◌, ◌<◌, ◌≤◌, get_or, length}
use Rattle.rs_erase.specs.declared.zech_logarithms.TheConstants.{ZECH_LOGARITHMS}
use Rattle.rs_erase.proofs.zech_sums.running_sums.Given as goal

abbrev pub invariant-loop-t : goal.invariant-loop-t
invariant-loop-t l = record {
  long : length l.sums ≡ 768;
  first : (k : ℕ) → k < l.t → k < l.distance → get_or l.sums k 0 ≡ get_or ZECH_LOGARITHMS (k % 255) 0;
  later : (k : ℕ) → k < l.t → l.distance ≤ k → 0 < l.distance → get_or l.sums k 0 ≡ get_or l.sums (k - l.distance) 0 + get_or ZECH_LOGARITHMS (k % 255) 0;
  small : (k : ℕ) → k < l.t → get_or l.sums k 0 ≤ 255 * (k + 1);
  rest : (k : ℕ) → l.t ≤ k → get_or l.sums k 0 ≡ 0;
}

use Rattle.std.proofs.Common.{◌≡◌, ℕ, ◌<◌, ◌≤◌, get_or}
use Rattle.gf_field.specs.Field.{times}
use Rattle.rs_erase.proofs.places.divide_by_locators.Given as goal

abbrev pub invariant-loop-i : goal.invariant-loop-i
invariant-loop-i l = record {
  done : (k : ℕ) → k < l.i → times (get_or l.products k 0) (get_or l.locators k 0) ≡ get_or l.fn.products k 0;
  below : (k : ℕ) → k < l.i → get_or l.products k 0 < 256;
  rest : (k : ℕ) → l.i ≤ k → get_or l.products k 0 ≡ get_or l.fn.products k 0;
}

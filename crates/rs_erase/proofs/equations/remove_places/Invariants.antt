use Rattle.std.proofs.Common.{◌≡◌, ℕ, ◌-◌, ◌<◌, get_or, take}
use Rattle.rs_erase.specs.FromZero.{syndromes_without}
use Rattle.rs_erase.specs.Rows.{listed}
use Rattle.rs_erase.proofs.equations.remove_places.Given as goal

abbrev pub invariant-loop-i : goal.invariant-loop-i
invariant-loop-i l = record {
  rest : take (48 - l.i) (listed l.rest) ≡ syndromes_without (take l.i l.locators) (listed l.fn.syndromes);
  firsts : (k : ℕ) → k < l.i → get_or l.firsts k 0 ≡ get_or (syndromes_without (take k l.locators) (listed l.fn.syndromes)) 0 0;
  below : (k : ℕ) → k < l.i → get_or l.firsts k 0 < 256;
}

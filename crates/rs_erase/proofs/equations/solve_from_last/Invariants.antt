use Rattle.std.proofs.Common.{All, List, length, get_or, take, drop, ℕ, ◌≡◌, ◌-◌, ◌<◌, ◌≤◌}
use Rattle.rs_erase.specs.Code.{AreElements}
use Rattle.rs_erase.specs.FromZero.{AreFirstSyndromes, SolvesFromZero, syndromes_without}
use Rattle.rs_erase.proofs.equations.solve_from_last.Given as goal

abbrev pub invariant-loop-i : goal.invariant-loop-i
invariant-loop-i l = record {
  elements : AreElements l.products;
  before : (k : ℕ) → k < length l.locators - l.i → get_or l.products k 0 ≡ get_or l.fn.products k 0;
  solved : (s : List ℕ) → length l.locators ≤ length s → AreFirstSyndromes l.locators s l.fn.products
      → All (λ a. a ≡ 0) (syndromes_without l.locators s)
      → SolvesFromZero (drop (length l.locators - l.i) l.locators) (drop (length l.locators - l.i) l.products)
      (syndromes_without (take (length l.locators - l.i) l.locators) s);
}

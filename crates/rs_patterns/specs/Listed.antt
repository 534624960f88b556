-- The erased bytes of a chunk, listed.
use Rattle.std.specs.Prelude.{ℕ, ◌≡◌, ◌≢◌, ◌+◌, ◌%◌, ◌<◌, Bool, true, false, List, take, slice_index}
use Rattle.rs_patterns.specs.Positions.{erased_positions}

-- So many of the bytes of a chunk with its parity below an end are erased: these, each after the one before it, at these positions.
pub record ListsErased (count : ℕ) (kept : ℕ → Bool) (start k many end : ℕ) (bytes positions : List ℕ) : Type 0 where
  pub at : take many positions ≡ erased_positions count kept start k end
  pub below : (i : ℕ) → i < many → slice_index bytes i < end
  pub rising : (i j : ℕ) → i < j → j < many → slice_index bytes i < slice_index bytes j
  pub lost : (i : ℕ) → i < many → kept ((start + slice_index bytes i) % count) ≡ false
  pub others : (j : ℕ) → j < end → ((i : ℕ) → i < many → slice_index bytes i ≢ j) → kept ((start + j) % count) ≡ true

-- The marks of the fragments that have come.
use Rattle.std.specs.Prelude.{ℕ, ◌+◌, ◌<◌, ◌≤◌, Bool, false, List, length, slice_index_or}
use Rattle.dcp_pft.specs.Limits.{most_carried}

-- the mark at this index is set
abbrev pub is_marked : List Bool → ℕ → Bool
is_marked marks i = slice_index_or marks i false

-- the marks of the fragments that the bytes of a chunk belong to, which starts at a place
pub record HasMarks (count k place : ℕ) (marks_of : List Bool) : Type 0 where
  pub some : 0 < count
  pub few : k ≤ 207
  pub start : place ≤ most_carried
  pub marks : count ≤ length marks_of

-- byte j of a chunk with its parity
pub record IsByteOf (k j : ℕ) : Type 0 where
  pub few : k ≤ 207
  pub within : j < k + 48

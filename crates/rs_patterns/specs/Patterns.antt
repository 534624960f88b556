-- The patterns that are kept, and for which chunks they are.
use Rattle.std.specs.Prelude.{ℕ, ◌≡◌, ◌+◌, ◌<◌, ◌≤◌, Bool, List, IfSome, length, take}
use Rattle.std.specs.List.{All}
use Rattle.dcp_pft.specs.Loss.{erased}
use Rattle.rs_patterns.specs.declared.patterns.Kept.{Kept}
use Rattle.rs_patterns.specs.Positions.{erased_positions}
use Rattle.dcp_pft.specs.Limits.{most_carried}
use Rattle.rs_patterns.specs.Marks.{is_marked}

-- the chunk that starts at a place, of which enough has come, with the marks of its packet's fragments
pub record IsErased (count k start : ℕ) (marks : List Bool) : Type 0 where
  pub some : 0 < count
  pub few : k ≤ 207
  pub within : start ≤ most_carried
  pub room : count ≤ length marks
  pub enough : erased count (is_marked marks) start (k + 48) ≤ 48

-- It is for the chunks that begin with this fragment, of packets with so many fragments, so many bytes a chunk and these marks.
pub record IsFor (kept : Kept) (count k first : ℕ) (marks : List Bool) : Type 0 where
  pub same_count : kept.count ≡ count
  pub same_k : kept.k ≡ k
  pub same_first : kept.first ≡ first
  pub same_marks : take count kept.marks ≡ take count marks

-- where there is a pattern, it has the erased positions of the chunks that it is for, and runs at the distance that is noted
abbrev pub IsWellFormed : Kept → Type 0
IsWellFormed kept =
    IfSome kept.pattern (λ pattern. pattern
    ≡ record { places = erased_positions kept.count (is_marked kept.marks) kept.first kept.k (kept.k + 48); distance = kept.distance })

-- patterns in their places
pub record AreKept (kept : List Kept) : Type 0 where
  pub each : length kept ≡ 128
  pub right : All IsWellFormed kept

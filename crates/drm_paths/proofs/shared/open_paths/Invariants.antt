use Rattle.std.proofs.Common.{◌≡◌, ◌+◌, ◌<◌, ℕ, length, slice_index_or}
use Rattle.drm_paths.specs.State.{PathState, new_path}
use Rattle.drm_paths.proofs.shared.open_paths.Given as goal

-- so many paths were made, and the parts of the others are left
abbrev pub invariant-loop-number : goal.invariant-loop-number
invariant-loop-number g l =
    (l.all.parts + l.number ≡ l.paths) × (l.all.amount ≡ 0) × (l.total.total ≡ 0) × (length l.list ≡ l.number)
    × ((k : ℕ) (d : PathState) → k < l.number → slice_index_or l.list k d ≡ new_path k)

use Rattle.std.proofs.Common.{◌≡◌, ◌+◌, None, length, All}
use Rattle.std.specs.Option.{option_copied}
use Rattle.drm_schedule.specs.Ranges.{TimedInLines}
use Rattle.drm_schedule.specs.Valid.{first_fault, beginning_rows}
use Rattle.drm_schedule.proofs.valid.beginning_fault.Given as goal

-- the fault is that of the blocks that are left, behind the one before them
abbrev pub invariant-loop-left : goal.invariant-loop-left
invariant-loop-left l =
    (first_fault (beginning_rows l.k l.j l.config l.end (option_copied l.before) l.left) ≡ first_fault (beginning_rows l.k 0 l.config l.end None l.config.blocks))
    × (l.j + length l.left ≡ length l.config.blocks) × All TimedInLines l.left

abbrev pub decreases-loop-left : goal.decreases-loop-left
decreases-loop-left l = length l.left

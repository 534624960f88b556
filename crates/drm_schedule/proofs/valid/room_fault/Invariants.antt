use Rattle.std.proofs.Common.{◌≡◌, ◌+◌, length, All}
use Rattle.drm_schedule.specs.declared.invalid.Reason.TheVariants as reason
use Rattle.drm_schedule.specs.Ranges.{TimedInLines}
use Rattle.drm_schedule.specs.Sizes.{has_no_room}
use Rattle.drm_schedule.specs.Valid.{first_fault, block_rows}
use Rattle.drm_schedule.proofs.valid.room_fault.Given as goal

-- the fault is that of the blocks that are left
abbrev pub invariant-loop-left : goal.invariant-loop-left
invariant-loop-left l =
    (first_fault (block_rows l.k l.j (has_no_room l.config) reason.Fit l.left) ≡ first_fault (block_rows l.k 0 (has_no_room l.config) reason.Fit l.config.blocks))
    × (l.j + length l.left ≡ length l.config.blocks) × All TimedInLines l.left

abbrev pub decreases-loop-left : goal.decreases-loop-left
decreases-loop-left l = length l.left

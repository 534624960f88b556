use Rattle.std.proofs.Common.{◌≡◌, ◌+◌, length, All}
use Rattle.drm_schedule.specs.declared.invalid.Reason.TheVariants as reason
use Rattle.drm_schedule.specs.Ranges.{TimedInLines}
use Rattle.drm_schedule.specs.Services.{block_disagrees}
use Rattle.drm_schedule.specs.Valid.{first_fault, block_rows}
use Rattle.drm_schedule.proofs.valid.disagreeing_fault.Given as goal

-- the fault is that of the blocks that are left
abbrev pub invariant-loop-left : goal.invariant-loop-left
invariant-loop-left l =
    (first_fault (block_rows l.k l.j (block_disagrees l.config) reason.Services l.left) ≡ first_fault (block_rows l.k 0 (block_disagrees l.config) reason.Services l.config.blocks))
    × (l.j + length l.left ≡ length l.config.blocks) × All TimedInLines l.left

abbrev pub decreases-loop-left : goal.decreases-loop-left
decreases-loop-left l = length l.left

use Rattle.std.proofs.Common.{◌≡◌, ◌+◌, length}
use Rattle.drm_schedule.specs.Valid.{first_fault, content_rows}
use Rattle.drm_schedule.proofs.valid.content_fault.Given as goal

-- the fault is that of the streams that are left
abbrev pub invariant-loop-left : goal.invariant-loop-left
invariant-loop-left l =
    (first_fault (content_rows l.config l.j l.frames l.left) ≡ first_fault (content_rows l.config 0 l.frames l.streams)) × (l.j + length l.left ≡ length l.streams)

abbrev pub decreases-loop-left : goal.decreases-loop-left
decreases-loop-left l = length l.left

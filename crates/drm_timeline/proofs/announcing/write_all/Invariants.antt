use Rattle.std.proofs.Common.{length, map, filter, All}
use Rattle.drm_schedule.specs.Ranges.{EntityInLines}
use Rattle.drm_schedule.specs.SameLines.{is_of}
use Rattle.drm_schedule.specs.Announcement.{repeated_of}
use Rattle.drm_timeline.specs.Announcing.{as_next}
use Rattle.drm_timeline.proofs.PackedLemmas.{Packs}
use Rattle.drm_timeline.proofs.announcing.write_all.Given as goal

-- what is packed so far, and the entities that are left
abbrev pub invariant-loop-left : goal.invariant-loop-left
invariant-loop-left l =
    Packs l.frame l.free l.fn.from (map as_next (repeated_of l.repeated l.config)) l.spot (map as_next (filter (λ e. is_of l.repeated e.body) l.left)) l.fn.sink l.sink
    × All EntityInLines l.left

abbrev pub decreases-loop-left : goal.decreases-loop-left
decreases-loop-left l = length l.left

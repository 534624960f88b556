use Rattle.std.proofs.Common.{◌≡◌, length, map, filter, All}
use Rattle.drm_sdc.specs.Entity.{entity_size}
use Rattle.drm_schedule.specs.Ranges.{EntityInLines}
use Rattle.plan_packing.specs.Packing.{last_spot}
use Rattle.drm_schedule.specs.SameLines.{is_of}
use Rattle.drm_schedule.specs.Announcement.{repeated_of}
use Rattle.drm_schedule.proofs.announcement.place_all.Given as goal

-- the entities that are left go where they go from here
abbrev pub invariant-loop-left : goal.invariant-loop-left
invariant-loop-left l =
    (last_spot l.free l.spot (map entity_size (filter (λ e. is_of l.repeated e.body) l.left)) ≡ last_spot l.free l.fn.from (map entity_size (repeated_of l.repeated l.config)))
    × All EntityInLines l.left

abbrev pub decreases-loop-left : goal.decreases-loop-left
decreases-loop-left l = length l.left

use Rattle.std.proofs.Common.{◌≡◌, ◌+◌, ◌≤◌, length, filter}
use Rattle.drm_timeline.specs.FastAccess.{is_of_kind}
use Rattle.drm_timeline.proofs.fast_access.count.Given as goal

-- what is counted, and those of the services that are left
abbrev pub invariant-loop-left : goal.invariant-loop-left
invariant-loop-left l =
    (l.count + length (filter (is_of_kind l.is_data) l.left) ≡ length (filter (is_of_kind l.is_data) l.services)) × (length (filter (is_of_kind l.is_data) l.services) ≤ 4)

abbrev pub decreases-loop-left : goal.decreases-loop-left
decreases-loop-left l = length l.left

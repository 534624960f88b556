use Rattle.std.proofs.Common.{◌≡◌, ◌-◌, ◌≤◌, length, filter, slice_get}
use Rattle.drm_timeline.specs.FastAccess.{is_of_kind}
use Rattle.drm_timeline.proofs.fast_access.nth.Given as goal

-- the service that is looked for is one of those left
abbrev pub invariant-loop-left : goal.invariant-loop-left
invariant-loop-left l =
    (slice_get (filter (is_of_kind l.is_data) l.left) (l.k - l.before) ≡ slice_get (filter (is_of_kind l.is_data) l.services) l.k) × (l.before ≤ l.k)

abbrev pub decreases-loop-left : goal.decreases-loop-left
decreases-loop-left l = length l.left

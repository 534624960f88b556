use Rattle.std.proofs.Common.{◌≡◌, length, take, filter, None}
use Rattle.std.specs.List.{last_or}
use Rattle.drm_timeline.specs.Standing.{has_started}
use Rattle.drm_timeline.proofs.configuration.last_started.Given as goal

-- the last configuration that has started is one of those left
abbrev pub invariant-loop-left : goal.invariant-loop-left
invariant-loop-left l =
    (last_or None (filter (has_started l.sf) l.left) ≡ last_or None (filter (has_started l.sf) l.configs)) × (l.left ≡ take (length l.left) l.configs)

abbrev pub decreases-loop-left : goal.decreases-loop-left
decreases-loop-left l = length l.left

use Rattle.std.proofs.Common.{◌≡◌, length, All}
use Rattle.std.specs.List.{find}
use Rattle.drm_schedule.specs.Ranges.{ConfigInLines}
use Rattle.drm_timeline.specs.Standing.{is_counting, announced_in}
use Rattle.drm_timeline.proofs.ScheduleLemmas.{IsSound}
use Rattle.drm_timeline.proofs.configuration.announced.Given as goal

-- the configuration that is announced is one of those left
abbrev pub invariant-loop-left : goal.invariant-loop-left
invariant-loop-left l = (find (is_counting l.sf) l.left ≡ announced_in l.plan l.sf) × All ConfigInLines l.left × All IsSound l.left

abbrev pub decreases-loop-left : goal.decreases-loop-left
decreases-loop-left l = length l.left

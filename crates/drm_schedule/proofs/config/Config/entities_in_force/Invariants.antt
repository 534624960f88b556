use Rattle.std.proofs.Common.{◌≡◌, length}
use Rattle.drm_schedule.specs.InForce.{begun, entities_of_last, entities_in_force}
use Rattle.drm_schedule.proofs.config.Config.entities_in_force.Given as goal

-- of the blocks that are left, the last one that has begun, or else what was found, is the one in force
abbrev pub invariant-loop-left : goal.invariant-loop-left
invariant-loop-left l = entities_of_last l.entities (begun l.reached l.left) ≡ entities_in_force l.self l.super_frame

abbrev pub decreases-loop-left : goal.decreases-loop-left
decreases-loop-left l = length l.left

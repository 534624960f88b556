use Rattle.std.proofs.Common.{◌-◌, ◌≤◌, List, length}
use Rattle.drm_sdc.specs.declared.entity.Entity.{Entity}
use Rattle.drm_sdc.proofs.Walk.{IsBefore}
use Rattle.drm_sdc.proofs.field.check_entities.Given as goal

-- some entities stand before this one
abbrev pub invariant-loop-size : goal.invariant-loop-size
invariant-loop-size l = record { within : l.at ≤ length l.field; entities : List Entity; before : IsBefore entities l.at l.field }

abbrev pub decreases-loop-size : goal.decreases-loop-size
decreases-loop-size l = length l.field - l.at

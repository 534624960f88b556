use Rattle.std.proofs.Common.{◌-◌, ◌≤◌, length}
use Rattle.drm_sdc.proofs.Walk.{IsBefore}
use Rattle.drm_sdc.proofs.field.read_field.Given as goal

abbrev pub invariant-loop-entities : goal.invariant-loop-entities
invariant-loop-entities l = record { within : l.at ≤ length l.field; before : IsBefore l.entities l.at l.field }

abbrev pub decreases-loop-entities : goal.decreases-loop-entities
decreases-loop-entities l = length l.field - l.at

use Rattle.std.proofs.Common.{◌≡◌, take}
use Rattle.drm_sdc.specs.Writing.{total_size}
use Rattle.drm_sdc.proofs.write_field.total_size.Given as goal

-- the bytes of the entities before this one
abbrev pub invariant-loop-entity : goal.invariant-loop-entity
invariant-loop-entity l = l.total ≡ total_size (take l.entity-index l.entities)

use Rattle.std.proofs.Common.{◌≡◌, ◌+◌, ◌*◌, length, take}
use Rattle.drm_bits.specs.Sink.{unwritten}
use Rattle.drm_bits.specs.Sink.{WroteBits}
use Rattle.drm_sdc.specs.Writing.{total_size}
use Rattle.drm_bits.proofs.WroteLemmas.{each}
use Rattle.drm_sdc.proofs.WrittenField.{bits_of_entity}
use Rattle.drm_sdc.proofs.write_field.write_entities.Given as goal

-- the entities before this one are written
abbrev pub invariant-loop-entity : goal.invariant-loop-entity
invariant-loop-entity l =
    record {
      wrote : WroteBits (each bits_of_entity (take l.entity-index l.entities)) l.fn.sink l.sink;
      left : length (unwritten l.sink) + 8 * total_size (take l.entity-index l.entities) ≡ length (unwritten l.fn.sink);
    }

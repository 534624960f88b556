use Rattle.std.proofs.Common.{◌≡◌, ◌+◌, ◌*◌, length, take}
use Rattle.drm_bits.specs.Sink.{unwritten}
use Rattle.drm_bits.specs.Sink.{WroteBits}
use Rattle.drm_bits.proofs.WroteLemmas.{each}
use Rattle.drm_bits.proofs.PartLemmas.{part_bits}
use Rattle.drm_bits.proofs.description.write_parts.Given as goal

-- the parts before this one are written
abbrev pub invariant-loop-part : goal.invariant-loop-part
invariant-loop-part l =
    record {
      wrote : WroteBits (each part_bits (take l.part-index l.parts)) l.fn.sink l.sink;
      left : length (unwritten l.sink) + 24 * l.part-index ≡ length (unwritten l.fn.sink);
    }

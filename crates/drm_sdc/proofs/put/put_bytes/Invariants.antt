use Rattle.std.proofs.Common.{◌≡◌, ◌+◌, ◌*◌, length, take}
use Rattle.drm_bits.specs.Bits.{digits}
use Rattle.drm_bits.specs.Sink.{unwritten}
use Rattle.drm_bits.specs.Sink.{WroteBits}
use Rattle.drm_bits.proofs.WroteLemmas.{each}
use Rattle.drm_sdc.proofs.put.put_bytes.Given as goal

-- the bytes before this one are written
abbrev pub invariant-loop-byte : goal.invariant-loop-byte
invariant-loop-byte l =
    record {
      wrote : WroteBits (each (digits 8) (take l.byte-index l.bytes)) l.fn.sink l.sink;
      left : length (unwritten l.sink) + 8 * l.byte-index ≡ length (unwritten l.fn.sink);
    }

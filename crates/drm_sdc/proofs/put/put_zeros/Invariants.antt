use Rattle.std.proofs.Common.{◌≡◌, ◌+◌, ◌*◌, length, replicate}
use Rattle.drm_bits.specs.Bits.{bits_of}
use Rattle.drm_bits.specs.Sink.{unwritten}
use Rattle.drm_bits.specs.Sink.{WroteBits}
use Rattle.drm_sdc.proofs.put.put_zeros.Given as goal

-- so many zero bytes are written
abbrev pub invariant-loop : goal.invariant-loop
invariant-loop l =
    record {
      wrote : WroteBits (bits_of (replicate l.counter 0)) l.fn.sink l.sink;
      left : length (unwritten l.sink) + 8 * l.counter ≡ length (unwritten l.fn.sink);
    }

use Rattle.std.proofs.Common.{◌≡◌, ◌+◌, ◌*◌, length, take}
use Rattle.drm_bits.specs.Sink.{unwritten}
use Rattle.drm_bits.specs.Sink.{WroteBits}
use Rattle.drm_bits.proofs.WroteLemmas.{each}
use Rattle.drm_sdc.proofs.Written.{channel_bits}
use Rattle.drm_sdc.proofs.write_body.write_channels.Given as goal

-- the channels before this one are written
abbrev pub invariant-loop-channel : goal.invariant-loop-channel
invariant-loop-channel l =
    record {
      wrote : WroteBits (each channel_bits (take l.channel-index l.channels)) l.fn.sink l.sink;
      left : length (unwritten l.sink) + 16 * l.channel-index ≡ length (unwritten l.fn.sink);
    }

use Rattle.std.proofs.Common.{◌≡◌, ◌+◌, ◌*◌, ◌++◌, ◌<◌, ◌^◌, ℕ, length, take, get_or}
use Rattle.drm_bits.specs.Bits.{bits_of}
use Rattle.drm_sdc.proofs.unpack.unpack.Given as goal

-- the bytes before this one are taken
abbrev pub invariant-loop-byte : goal.invariant-loop-byte
invariant-loop-byte l =
    record {
      size : length l.bytes ≡ length l.fn.bytes;
      taken : l.fn.bits ≡ bits_of (take l.byte-index l.bytes) ++ l.bits;
      left : length l.bits + 8 * l.byte-index ≡ length l.fn.bits;
      octets : (i : ℕ) → get_or l.bytes i 0 < 2 ^ 8;
    }

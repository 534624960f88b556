use Rattle.std.proofs.Common.{◌<◌, ◌^◌, take}
use Rattle.drm_bits.specs.Bits.{digits, bits_of}
use Rattle.drm_bits.specs.Crc.{IsCheck, crc8_polynomial}
use Rattle.drm_bits.proofs.crc.crc8.Given as goal

-- the check value of the bytes before this one
abbrev pub invariant-loop-byte : goal.invariant-loop-byte
invariant-loop-byte l =
    record { fits : l.check < 2 ^ 8; check : IsCheck crc8_polynomial (bits_of (take l.byte-index l.bytes)) (digits 8 l.check) }

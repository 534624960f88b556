use Rattle.std.proofs.Common.{◌<◌, ◌^◌, take}
use Rattle.drm_bits.specs.Bits.{digits, bits_of}
use Rattle.drm_bits.specs.Crc.{IsCheck, crc16_polynomial}
use Rattle.drm_bits.proofs.crc.crc16.Given as goal

-- the check value of the bytes before this one
abbrev pub invariant-loop-i : goal.invariant-loop-i
invariant-loop-i l = record {
  fits : l.check < 2 ^ 16;
  check : IsCheck crc16_polynomial (bits_of (take l.i l.bytes)) (digits 16 l.check);
}

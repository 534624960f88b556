use Rattle.std.proofs.Common.{◌*◌, ◌<◌, ◌^◌, take}
use Rattle.drm_bits.specs.Bits.{digits, bits_of}
use Rattle.drm_bits.specs.Crc.{complement, IsCheck, crc16_polynomial}
use Rattle.drm_bits.proofs.crc.register_after.Given as goal

-- the register has taken the groups of eight before this one
abbrev pub invariant-loop-i : goal.invariant-loop-i
invariant-loop-i l = record {
  fits : l.register < 2 ^ 16;
  check : IsCheck crc16_polynomial (bits_of (take (8 * l.i) l.bytes)) (complement (digits 16 l.register));
}

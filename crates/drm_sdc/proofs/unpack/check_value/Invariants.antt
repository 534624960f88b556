use Rattle.std.proofs.Common.{◌∷◌, take}
use Rattle.drm_bits.specs.Bits.{digits, bits_of}
use Rattle.drm_bits.specs.Crc.{IsCheck, crc16_polynomial}
use Rattle.drm_sdc.proofs.unpack.check_value.Given as goal

-- the value is that of the index and the bytes before this one
abbrev pub invariant-loop-byte : goal.invariant-loop-byte
invariant-loop-byte l = IsCheck crc16_polynomial (bits_of (l.afs ∷ take l.byte-index l.field)) (digits 16 l.run)

use Rattle.std.proofs.Common.{ℕ, sym, subst}
use Rattle.drm_bits.specs.Bits.{digits, bits_of}
use Rattle.drm_bits.specs.Crc.{IsCheck, crc16_polynomial}
use Rattle.drm_bits.proofs.Checks.{IsCheck-unique, crc16_low}
use Rattle.drm_bits.proofs.crc_run.CrcRun.value.Goals as goal

pub returns-clause-only : goal.returns-clause-only
returns-clause-only c = λ bytes is n below other.
    let P : ℕ → Type 0 = λ m. IsCheck crc16_polynomial (bits_of bytes) (digits 16 m) in
    IsCheck-unique 16 4129 crc16_polynomial (bits_of bytes) n c.self.inside.check crc16_low below c.self.invariant other (subst P (sym c.self.view_is) is)

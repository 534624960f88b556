use Rattle.std.proofs.Common.{ℕ, List, Bool, sym, subst}
use Rattle.drm_bits.specs.Bits.{digits, bits_of}
use Rattle.drm_bits.specs.Crc.{IsCheck, crc16_polynomial}
use Rattle.drm_bits.proofs.Checks.{bits_of-push}
use Rattle.drm_bits.proofs.crc_run.CrcRun.byte.Goals as goal

pub returns : goal.returns
returns c = λ bytes is.
    let Before : ℕ → Type 0 = λ n. IsCheck crc16_polynomial (bits_of bytes) (digits 16 n) in
    let P : List Bool → Type 0 = λ l. IsCheck crc16_polynomial l (digits 16 c.crc16_after.result) in
    subst P (sym (bits_of-push bytes c.args.b)) (c.crc16_after.ensures (bits_of bytes) (subst Before (sym c.self.view_is) is))

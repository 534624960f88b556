use Rattle.std.proofs.Common.{refl, w8, false, sym, ◌∙◌, ap, arith}
use Rattle.drm_bits.specs.Bits.{digits}
use Rattle.drm_bits.specs.Crc.{crc8_polynomial}
use Rattle.drm_bits.proofs.Registers.{step}
use Rattle.drm_bits.proofs.Checks.{step_clear, step_set, run-zero, IsCheck-byte, crc8_low}
use Rattle.drm_bits.proofs.crc.crc8_after.Goals as goal
use Rattle.drm_bits.proofs.crc.crc8_after.Goals.{then-register-eq0, else-register-eq0}

pub loop-preserved : goal.loop-preserved
loop-preserved c =
    let next = ap (λ l. step (digits 8 29) l false) c.loop.invariant ∙ sym (run-zero (digits 8 29) _ c.loop.counter) in
    elim c.if-register-eq0.branch [
      | then-register-eq0 w ↦ ap (digits 8) w.register-is ∙ (step_clear 7 c.loop.register 29 w.if-register-eq0.true ∙ next)
      | else-register-eq0 w ↦ ap (digits 8) w.register-is ∙ (step_set 7 c.loop.register 29 w.if-register-eq0.false ∙ next)
    ]

pub returns : goal.returns
returns c = λ taken is.
    IsCheck-byte 0 29 w8 crc8_polynomial taken c.args.check c.args.byte c.args.byte c.loop.register c.loop.counter refl crc8_low (omega arith) (omega arith) (omega arith) (omega arith) c.loop.invariant is

use Rattle.std.proofs.Common.{ℕ, List, Bool, sym, subst, arith}
use Rattle.std.proofs.lemmas.List.{take_all}
use Rattle.drm_bits.specs.Bits.{digits, bits_of}
use Rattle.drm_bits.specs.Crc.{IsCheck, crc8_polynomial}
use Rattle.drm_bits.proofs.Checks.{IsCheck-unique, bits_of-more, crc8_low, crc8_of_nothing}
use Rattle.drm_bits.proofs.crc.crc8.Goals as goal

pub loop-byte-init : goal.loop-byte-init
loop-byte-init c = record { fits = omega arith; check = crc8_of_nothing }

pub loop-byte-preserved : goal.loop-byte-preserved
loop-byte-preserved c =
    let P : List Bool → Type 0 = λ l. IsCheck crc8_polynomial l (digits 8 c.crc8_after-check.result) in
    record {
      fits = omega (arith, c.crc8_after-check.type_inv);
      check = subst P (sym (bits_of-more c.args.bytes.now c.loop-byte.byte-index c.loop-byte-test.true)) (c.crc8_after-check.ensures _ c.loop-byte.invariant.check);
    }

pub returns-clause-check : goal.returns-clause-check
returns-clause-check c =
    let P : List ℕ → Type 0 = λ l. IsCheck crc8_polynomial (bits_of l) (digits 8 c.loop-byte.check) in
    subst P (take_all c.loop-byte.byte-index c.args.bytes.now c.loop-byte-test.false) c.loop-byte.invariant.check

pub returns-clause-only : goal.returns-clause-only
returns-clause-only c = λ n below is.
    let P : List ℕ → Type 0 = λ l. IsCheck crc8_polynomial (bits_of l) (digits 8 c.loop-byte.check) in
    let check = subst P (take_all c.loop-byte.byte-index c.args.bytes.now c.loop-byte-test.false) c.loop-byte.invariant.check in
    IsCheck-unique 8 29 crc8_polynomial (bits_of c.args.bytes.now) n c.loop-byte.check crc8_low below c.loop-byte.invariant.fits is check

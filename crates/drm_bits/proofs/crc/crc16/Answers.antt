use Rattle.std.proofs.Common.{ℕ, List, Bool, ◌*◌, ◌/◌, length, take, w16, sym, subst, arith}
use Rattle.std.proofs.lemmas.List.{take_all}
use Rattle.drm_bits.specs.Bits.{digits, bits_of}
use Rattle.drm_bits.specs.Crc.{IsCheck, crc16_polynomial}
use Rattle.drm_bits.proofs.Checks.{IsCheck-unique, bits_of-more, crc16_low}
use Rattle.drm_bits.proofs.DigitsLemmas.{digits-not}
use Rattle.drm_bits.proofs.crc.crc16.Goals as goal

pub loop-i-init : goal.loop-i-init
loop-i-init c =
    let P : List Bool → Type 0 = λ l. IsCheck crc16_polynomial (bits_of (take (8 * (length c.args.bytes.now / 8)) c.args.bytes.now)) l in
    record {
      fits = omega arith;
      check = subst P (sym (digits-not w16 16 c.register_after-check.result (omega arith) (omega (arith, c.register_after-check.type_inv)))) c.register_after-check.ensures;
    }

pub loop-i-preserved : goal.loop-i-preserved
loop-i-preserved c =
    let P : List Bool → Type 0 = λ l. IsCheck crc16_polynomial l (digits 16 c.crc16_after-check.result) in
    record {
      fits = omega (arith, c.crc16_after-check.type_inv);
      check = subst P (sym (bits_of-more c.args.bytes.now c.loop-i.i c.loop-i-test.true)) (c.crc16_after-check.ensures _ c.loop-i.invariant.check);
    }

pub returns-clause-check : goal.returns-clause-check
returns-clause-check c =
    let P : List ℕ → Type 0 = λ l. IsCheck crc16_polynomial (bits_of l) (digits 16 c.loop-i.check) in
    subst P (take_all c.loop-i.i c.args.bytes.now c.loop-i-test.false) c.loop-i.invariant.check

pub returns-clause-only : goal.returns-clause-only
returns-clause-only c = λ n below is.
    let P : List ℕ → Type 0 = λ l. IsCheck crc16_polynomial (bits_of l) (digits 16 c.loop-i.check) in
    let check = subst P (take_all c.loop-i.i c.args.bytes.now c.loop-i-test.false) c.loop-i.invariant.check in
    IsCheck-unique 16 4129 crc16_polynomial (bits_of c.args.bytes.now) n c.loop-i.check crc16_low below c.loop-i.invariant.fits is check

use Rattle.std.proofs.Common.{ℕ, ◌≡◌, ◌+◌, ◌*◌, ◌/◌, ◌%◌, ◌^◌, ◌<◌, refl, w16, ◌∙◌, ap, arith, bit_xor, get_or}
use Rattle.std.proofs.lemmas.Nat.{xor_of_16}
use Rattle.std.proofs.Math.Nat.{mod-eq_of_lt}
use Rattle.std.specs.Int.{bit_not}
use Rattle.drm_bits.specs.Crc.{crc16_polynomial}
use Rattle.drm_bits.specs.declared.remainders.TheConstants.{REMAINDERS}
use Rattle.drm_bits.proofs.Checks.{IsCheck-byte, crc16_low}
use Rattle.drm_bits.proofs.EightShifts.{shifted_at_once}
use Rattle.drm_bits.proofs.crc.crc16_after.Goals as goal

pub returns : goal.returns
returns c = λ taken is.
    let moved : ℕ = c.from.result * 2 ^ 8 % 2 ^ 16 in
    let shifted : moved ≡ c.args.byte * 2 ^ 8 = ap (λ n. n * 2 ^ 8 % 2 ^ 16) c.from.ensures ∙ mod-eq_of_lt (omega (arith, c.ranges.byte)) in
    let register : ℕ = bit_xor (bit_not w16 c.args.check) moved in
    let small : register < 2 ^ 16 = xor_of_16 (bit_not w16 c.args.check) moved (omega arith) (omega arith) in
    let front : c.remainder_at.result ≡ get_or REMAINDERS (register / 2 ^ 8) 0 =
    c.remainder_at.ensures ∙ ap (λ (i : ℕ). get_or REMAINDERS i 0) (let e : 256 * 0 + register / 2 ^ 8 ≡ register / 2 ^ 8 = omega arith in e) in
    let below : c.remainder_at.result < 2 ^ 16 = omega arith in
    let after = xor_of_16 (register * 2 ^ 8 % 2 ^ 16) c.remainder_at.result (omega arith) below in
    IsCheck-byte 8 4129 w16 crc16_polynomial taken c.args.check c.args.byte moved (bit_xor (register * 2 ^ 8 % 2 ^ 16) c.remainder_at.result) 8 refl crc16_low refl shifted (omega arith) after
    (rw front (shifted_at_once register small)) is

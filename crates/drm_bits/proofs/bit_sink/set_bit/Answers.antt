use Rattle.std.proofs.Common.{◌≡◌, ℕ, ◌-◌, ◌*◌, ◌/◌, ◌%◌, ◌^◌, ◌<◌, true, false, nat_eq, get_or, bit_and, bit_or, sym, ◌∙◌, ap, arith, w8}
use Rattle.std.proofs.Math.ListN.{set}
use Rattle.std.proofs.lemmas.Nat.Bits.{bit_at_set_same, bit_at_set_other, bit_at_clear_same, bit_at_clear_other}
use Rattle.std.specs.Int.{bit_at, bit_not}
use Rattle.drm_bits.specs.Bits.{digits}
use Rattle.drm_bits.proofs.BitWrites.{digits-set, bits_of-set}
use Rattle.drm_bits.proofs.bit_sink.set_bit.Goals as goal
use Rattle.drm_bits.proofs.bit_sink.set_bit.Goals.{then-bit, else-bit}

-- a byte with one of its bits set, and with one cleared
set_in_byte : (byte k : ℕ) → k < 8 → digits 8 (bit_or byte (1 * 2 ^ (7 - k) % 2 ^ 8)) ≡ set (digits 8 byte) k true
set_in_byte byte k within =
    let place : 8 - 1 - k ≡ 7 - k = omega arith in
    let small : 7 - k < 8 = omega arith in
    let m : ℕ = bit_or byte (1 * 2 ^ (7 - k) % 2 ^ 8) in
    let here : nat_eq (bit_at m (8 - 1 - k)) 1 ≡ true = ap (λ i. nat_eq (bit_at m i) 1) place ∙ ap (λ x. nat_eq x 1) (bit_at_set_same w8 byte (7 - k) small) in
    digits-set 8 m byte k true within here (λ i below other. bit_at_set_other w8 byte (7 - k) small i (λ e. other (e ∙ sym place)))

cleared_in_byte : (byte k : ℕ) → k < 8 → digits 8 (bit_and byte (bit_not w8 (1 * 2 ^ (7 - k) % 2 ^ 8))) ≡ set (digits 8 byte) k false
cleared_in_byte byte k within =
    let place : 8 - 1 - k ≡ 7 - k = omega arith in
    let small : 7 - k < 8 = omega arith in
    let m : ℕ = bit_and byte (bit_not w8 (1 * 2 ^ (7 - k) % 2 ^ 8)) in
    let here : nat_eq (bit_at m (8 - 1 - k)) 1 ≡ false = ap (λ i. nat_eq (bit_at m i) 1) place ∙ ap (λ x. nat_eq x 1) (bit_at_clear_same w8 byte (7 - k) small) in
    digits-set 8 m byte k false within here (λ i below other. bit_at_clear_other w8 byte (7 - k) small i below (λ e. other (e ∙ sym place)))

pub returns-clause-bits : goal.returns-clause-bits
returns-clause-bits c =
    let k : ℕ = c.args.at % 8 in
    let within : k < 8 = omega arith in
    let byte : ℕ = get_or c.args.bytes.now (c.args.at / 8) 0 in
    let is : digits 8 c.if-bit.byte ≡ set (digits 8 byte) k c.args.bit =
    elim c.if-bit.branch [
      | then-bit w ↦ ap (digits 8) w.byte-is ∙ (set_in_byte byte k within ∙ ap (set (digits 8 byte) k) (sym w.if-bit.true))
      | else-bit w ↦ ap (digits 8) w.byte-is ∙ (cleared_in_byte byte k within ∙ ap (set (digits 8 byte) k) (sym w.if-bit.false))
    ] in
    bits_of-set c.args.bytes.now c.args.at c.if-bit.byte c.args.bit c.requires is

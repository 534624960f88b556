use Rattle.std.proofs.Common.{◌≡◌, ℕ, ◌<◌, ◌+◌, ◌*◌, ◌^◌, ◌++◌, List, Bool, [], ◌∷◌, get_or, sym, subst, ap, ap₂, arith, bit_xor}
use Rattle.std.proofs.lemmas.Nat.{xor_of_16}
use Rattle.drm_bits.specs.Bits.{digits, bits_of}
use Rattle.drm_bits.specs.Crc.{complement, IsCheck, crc16_polynomial}
use Rattle.drm_bits.proofs.BitsLemmas.{length-digits}
use Rattle.drm_bits.proofs.Checks.{check-more, crc16_low}
use Rattle.drm_bits.proofs.EightBytes.{eight_from, eight_taken}
use Rattle.drm_bits.proofs.crc.eight_bytes_after.Goals as goal

pub returns : goal.returns
returns c = λ taken is.
    let bytes : List ℕ = c.args.bytes.now in
    let at : ℕ = c.args.at in
    let b : ℕ → ℕ = λ k. get_or bytes (at + k) 0 in
    let small : (k : ℕ) → b k < 256 = λ k. omega (arith, c.type_inv.bytes (at + k)) in
    let first : ℕ = get_or bytes at 0 in
    let before : ℕ = c.args.register in
    let added : ℕ = 256 * c.from.result + c.from-2.result in
    let is_added : added ≡ 256 * first + b 1 = ap₂ (λ (m n : ℕ). 256 * m + n) c.from.ensures c.from-2.ensures in
    let below : bit_xor before added < 2 ^ 16 = xor_of_16 before added (omega arith) (omega (arith, is_added, c.type_inv.bytes at, small 1)) in
    let moved =
    eight_taken before (bit_xor before added) first (b 1) (b 2) (b 3) (b 4) (b 5) (b 6) (b 7) c.remainder_at-8.result c.remainder_at-7.result c.remainder_at-6.result c.remainder_at-5.result
    c.remainder_at-4.result c.remainder_at-3.result c.remainder_at-2.result c.remainder_at.result (ap (bit_xor before) is_added) below (small 1) (small 2) (small 3) (small 4) (small 5) (small 6) (small 7)
    c.remainder_at.ensures c.remainder_at-2.ensures c.remainder_at-3.ensures c.remainder_at-4.ensures c.remainder_at-5.ensures c.remainder_at-6.ensures c.remainder_at-7.ensures c.remainder_at-8.ensures in
    let low : List Bool = digits 16 4129 in
    let after : ℕ = bit_xor (bit_xor (bit_xor (bit_xor (bit_xor (bit_xor (bit_xor c.remainder_at.result c.remainder_at-2.result) c.remainder_at-3.result) c.remainder_at-4.result) c.remainder_at-5.result) c.remainder_at-6.result) c.remainder_at-7.result) c.remainder_at-8.result in
    let eight : List ℕ = first ∷ b 1 ∷ b 2 ∷ b 3 ∷ b 4 ∷ b 5 ∷ b 6 ∷ b 7 ∷ [] in
    let Before : List Bool → Type 0 = λ p. IsCheck p taken (complement (digits 16 before)) in
    let After : List Bool → Type 0 = λ p. IsCheck p (taken ++ bits_of eight) (complement (digits 16 after)) in
    let Taken : List ℕ → Type 0 = λ l. IsCheck crc16_polynomial (taken ++ bits_of l) (complement (digits 16 after)) in
    subst Taken (sym (eight_from at bytes c.requires))
    (subst After (sym crc16_low)
    (check-more low taken (bits_of eight) (digits 16 before) (digits 16 after) (omega (arith, length-digits 16 4129)) moved (subst Before crc16_low is)))

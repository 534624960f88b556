-- A register of sixteen bits whose first eight are shifted out at once, by a table.
use Rattle.std.proofs.Common.{◌≡◌, ℕ, zero, suc, ◌+◌, ◌*◌, ◌/◌, ◌%◌, ◌^◌, ◌<◌, Bool, false, List, [], ◌∷◌, ◌++◌, length, get_or, refl, sym, ◌∙◌, ap, ap₂, arith, append_assoc, length-append, bit_xor}
use Rattle.std.proofs.lemmas.List.{append-nil, length-replicate}
use Rattle.drm_bits.specs.Bits.{digits}
use Rattle.drm_bits.specs.Crc.{sum, zeros}
use Rattle.drm_bits.specs.declared.remainders.TheConstants.{REMAINDERS}
use Rattle.drm_bits.proofs.BitsLemmas.{length-digits}
use Rattle.drm_bits.proofs.DigitsLemmas.{digits-mod, digits-xor}
use Rattle.drm_bits.proofs.Polynomials.{sum-append, sum-zeros, sum_comm}
use Rattle.drm_bits.proofs.Registers.{step, run, run_at_once}
use Rattle.drm_bits.proofs.EightBytes.{digits-parts, run_pairs, row_at}
use Rattle.drm_bits.proofs.Checks.{digits-shifted}

-- Where no 1 falls out, what stands behind moves to the front.
run_clear : (low rest : List Bool) (n : ℕ) → n + length rest ≡ length low → run low (zeros n ++ rest) (zeros n) ≡ rest ++ zeros n
run_clear low rest zero size = sym (append-nil rest)
run_clear low rest (suc n) size =
    let last : List Bool = false ∷ [] in
    let long : length ((zeros n ++ rest) ++ last) ≡ length low =
    omega (arith, size, length-append (zeros n ++ rest) last, length-append (zeros n) rest, length-replicate n false) in
    let moved : step low (zeros (suc n) ++ rest) false ≡ zeros n ++ (rest ++ last) = sum-zeros ((zeros n ++ rest) ++ last) (length low) long ∙ append_assoc (zeros n) rest last in
    let fits : n + length (rest ++ last) ≡ length low = omega (arith, size, length-append rest last) in
    ap (λ l. run low l (zeros n)) moved
    ∙ (run_clear low (rest ++ last) n fits
    ∙ append_assoc rest last (zeros n))

-- The first row of the table holds what eight shifts make of a byte at the front.
table_at : (v : ℕ) → v < 256 → digits 16 (get_or REMAINDERS v 0) ≡ run (digits 16 4129) (digits 8 v ++ zeros 8) (zeros 8)
table_at v small =
    let low : List Bool = digits 16 4129 in
    let none : List Bool = zeros 16 in
    let wide : length low ≡ 16 = length-digits 16 4129 in
    let eight : length (digits 8 v) ≡ 8 = length-digits 8 v in
    let padded : length (digits 8 v ++ zeros 8) ≡ 16 = omega (arith, length-append (digits 8 v) (zeros 8), eight, length-replicate 8 false) in
    ap (λ (i : ℕ). digits 16 (get_or REMAINDERS i 0)) (let e : v ≡ 256 * 0 + v = omega arith in e)
    ∙ (row_at 0 v (omega arith) small
    ∙ (ap (run low none) (append-nil (digits 8 v))
    ∙ (run_at_once low none (digits 8 v) 8 (sym wide) (omega (arith, eight))
    ∙ ap₂ (λ l n. run low l (zeros n)) (sum_comm none (digits 8 v ++ zeros 8) ∙ sum-zeros (digits 8 v ++ zeros 8) 16 padded) eight)))

-- Eight shifts of a register, by the table.
pub shifted_at_once : (register : ℕ) → register < 2 ^ 16
    → digits 16 (bit_xor (register * 2 ^ 8 % 2 ^ 16) (get_or REMAINDERS (register / 2 ^ 8) 0)) ≡ run (digits 16 4129) (digits 16 register) (zeros 8)
shifted_at_once register small =
    let low : List Bool = digits 16 4129 in
    let front : List Bool = digits 8 (register / 2 ^ 8) in
    let back : List Bool = digits 8 register in
    let eight : List Bool = zeros 8 in
    let wide : length low ≡ 16 = length-digits 16 4129 in
    let size_front : length (front ++ eight) ≡ length low = omega (arith, length-append front eight, length-digits 8 (register / 2 ^ 8), length-replicate 8 false, wide) in
    let size_back : length (eight ++ back) ≡ length low = omega (arith, length-append eight back, length-digits 8 register, length-replicate 8 false, wide) in
    let parts : sum (front ++ eight) (eight ++ back) ≡ digits 16 register =
    sum-append front eight eight back (length-digits 8 (register / 2 ^ 8) ∙ sym (length-replicate 8 false))
    ∙ (ap₂ (λ (p q : List Bool). p ++ q)
    (sum-zeros front 8 (length-digits 8 (register / 2 ^ 8)))
    (sum_comm eight back ∙ sum-zeros back 8 (length-digits 8 register))
    ∙ sym (digits-parts 8 8 register)) in
    let moved : digits 16 (register * 2 ^ 8 % 2 ^ 16) ≡ back ++ eight = digits-mod 16 16 (register * 2 ^ 8) (omega arith) ∙ digits-shifted 8 register in
    digits-xor 16 (register * 2 ^ 8 % 2 ^ 16) (get_or REMAINDERS (register / 2 ^ 8) 0)
    ∙ (ap₂ sum
    (moved ∙ sym (run_clear low back 8 (omega (arith, wide, length-digits 8 register))))
    (table_at (register / 2 ^ 8) (omega (arith, small)))
    ∙ (sum_comm (run low (eight ++ back) eight) (run low (front ++ eight) eight)
    ∙ (run_pairs low (front ++ eight) (eight ++ back) eight eight size_front size_back refl
    ∙ ap (λ l. run low l eight) parts)))

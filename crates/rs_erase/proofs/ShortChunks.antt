-- Chunks of few bytes, and their parity as a sum of multiples of rows.
use Rattle.std.proofs.Common.{ℕ, zero, suc, ◌≡◌, ◌+◌, ◌-◌, ◌*◌, ◌<◌, ◌≤◌, inl, inr, List, ◌++◌, length, take, replicate, cond, get_or, refl, sym, subst, ap, ap₂, ◌∙◌, arith, bit_xor}
use Rattle.std.proofs.lemmas.Bool.{cases_lt, le-ltb, lt-ltb}
use Rattle.std.proofs.lemmas.List.{get_or-append_right, get_or-replicate, get_or-take, get_or_append_left, length-replicate, length-take-le}
use Rattle.std.proofs.lemmas.Simd.{get_or-chunk, length-chunk}
use Rattle.std.specs.Int.Bits.{xor_self, xor_zero_r}
use lib.Lanes.{chunk}
use Rattle.gf_field.specs.Field.{power, times}
use Rattle.gf_field.proofs.Times.{times_assoc}
use Rattle.rs_erase.specs.Code.{AreElements, IsCodeWord, word_of}
use Rattle.rs_erase.specs.Equations.{nth_power, word_value}
use Rattle.rs_erase.specs.Polynomial.{add, scale}
use Rattle.rs_erase.specs.Register.{HasFirstRemainder, IsRemainder}
use Rattle.rs_erase.specs.Short.{coded_byte, symbol_sum}
use Rattle.rs_erase.specs.declared.first_remainders.TheConstants.{FIRST_REMAINDERS}
use Rattle.rs_erase.proofs.Elements.{elements_each, zeros_elements}
use Rattle.rs_erase.proofs.FirstRemainders.{next_first, none_first, row_is}
use Rattle.rs_erase.proofs.PolynomialLaws.{add_elements, get_or_add, get_or_scale, length-scale, scale_elements}
use Rattle.rs_erase.proofs.ShiftRegister.{remainder_is_parity}
use Rattle.rs_erase.proofs.WordValues.{length-add_same, nth_power_add, word_value_append, word_value_zeros}

-- what remains of each byte alone
abbrev pub row : ℕ → List ℕ
row n = chunk (48 * n) 48 FIRST_REMAINDERS

row_long : (n : ℕ) → n < 16 → length (row n) ≡ 48
row_long n lt = length-chunk (48 * n) 48 FIRST_REMAINDERS (let l : length FIRST_REMAINDERS ≡ 768 = refl in omega (arith, l, lt))

-- what remains of the first n bytes
unfoldable pub parity_of : List ℕ → ℕ → List ℕ
parity_of c zero = replicate 48 0
parity_of c (suc n) = add (parity_of c n) (scale (get_or c n 0) (row n))

pub parity_long : (c : List ℕ) (n : ℕ) → n ≤ 16 → length (parity_of c n) ≡ 48
unfolding parity_of
parity_long c zero le = length-replicate {A = ℕ} 48 0
parity_long c (suc n) le =
    let f = get_or c n 0 in
    let scaled : length (scale f (row n)) ≡ 48 = length-scale f (row n) ∙ row_long n (omega (arith, le)) in
    length-add_same (parity_of c n) (scale f (row n)) (parity_long c n (omega (arith, le)) ∙ sym scaled) ∙ scaled

parity_elements : (c : List ℕ) (n : ℕ) → AreElements (parity_of c n)
unfolding parity_of
parity_elements c zero = zeros_elements 48
parity_elements c (suc n) = add_elements (parity_of c n) (scale (get_or c n 0) (row n)) (parity_elements c n) (scale_elements (get_or c n 0) (row n))

is_first : (c : List ℕ) (n : ℕ) → n ≤ 16 → n ≤ length c → HasFirstRemainder c (parity_of c n) n
unfolding parity_of
is_first c zero le room = none_first c
is_first c (suc n) le room =
    let e : n + 1 ≡ suc n = omega arith in
    subst (HasFirstRemainder c (parity_of c (suc n))) e
    (next_first c (parity_of c n) (row n) (parity_of c (suc n)) (get_or c n 0) n (omega (arith, le)) (omega (arith, room)) refl
    (row_is n (row n) (omega (arith, le)) refl) refl (is_first c n (omega (arith, le)) (omega (arith, room))))

remains : (c : List ℕ) (k : ℕ) → k ≤ 16 → k ≤ length c → IsRemainder (take k c ++ replicate (207 - length (take k c)) 0) (parity_of c k)
remains c k few room = record {
  roots = λ j pos le.
      let i = power j in
      let h = is_first c k few room in
      let r = parity_of c k in
      let long : length (take k c) ≡ k = length-take-le k c room in
      let zeros : List ℕ = replicate (207 - length (take k c)) 0 in
      let v = word_value i (take k c) in
      let whole : word_value i (take k c ++ replicate (207 - length (take k c)) 0) ≡ times v (nth_power i (207 - k)) =
      word_value_append i (take k c) zeros
      ∙ ap₂ bit_xor
      (ap (λ (n : ℕ). times v (nth_power i n)) (length-replicate {A = ℕ} (207 - length (take k c)) 0 ∙ ap (λ (n : ℕ). 207 - n) long))
      (word_value_zeros i (207 - length (take k c)))
      ∙ xor_zero_r (times v (nth_power i (207 - k))) in
      let moved : times (word_value i (take k c ++ replicate (207 - length (take k c)) 0)) (nth_power i 48) ≡ times v (nth_power i (255 - k)) =
      ap (λ (x : ℕ). times x (nth_power i 48)) whole ∙ times_assoc v (nth_power i (207 - k)) (nth_power i 48)
      ∙ ap (times v) (sym (nth_power_add i (207 - k) 48) ∙ ap (nth_power i) (let e : 207 - k + 48 ≡ 255 - k = omega (arith, few) in e)) in
      word_value_append i (take k c ++ zeros) r
      ∙ ap (λ (n : ℕ). bit_xor (times (word_value i (take k c ++ zeros)) (nth_power i n)) (word_value i r)) (parity_long c k few)
      ∙ ap₂ bit_xor moved (h.values j pos le)
      ∙ xor_self (times v (nth_power i (255 - k)));
}

-- it is their parity
pub is_parity : (c : List ℕ) (k : ℕ) → k ≤ 16 → k ≤ length c → ((i : ℕ) → get_or c i 0 < 256) → IsCodeWord (word_of (take k c) (parity_of c k))
is_parity c k few room small =
    let long : length (take k c) ≡ k = length-take-le k c room in
    remainder_is_parity (take k c) (parity_of c k) (omega (arith, long, few))
    (elements_each (take k c) (λ i lt. subst (λ b. b < 256) (sym (get_or-take k c i 0 (omega (arith, lt, long)))) (small i)))
    (parity_long c k few) (parity_elements c k) (remains c k few room)

symbol_of : (c : List ℕ) (p : ℕ) → p < 48 → (n : ℕ) → n ≤ 16 → get_or (parity_of c n) p 0 ≡ symbol_sum FIRST_REMAINDERS c p n
unfolding parity_of symbol_sum
symbol_of c p lt zero le = get_or-replicate 48 p 0 0 lt
symbol_of c p lt (suc n) le =
    let f = get_or c n 0 in
    let long = parity_long c n (omega (arith, le)) in
    let lr = row_long n (omega (arith, le)) in
    let scaled : length (scale f (row n)) ≡ 48 = length-scale f (row n) ∙ lr in
    get_or_add (parity_of c n) (scale f (row n)) p (omega (arith, lt, long)) (omega (arith, lt, scaled))
    ∙ ap₂ bit_xor (symbol_of c p lt n (omega (arith, le)))
    (get_or_scale f (row n) p (omega (arith, lt, lr)) ∙ ap (times f) (get_or-chunk (48 * n) 48 FIRST_REMAINDERS p 0 lt))

-- the bytes of both, place by place
pub byte_is : (c : List ℕ) (k place : ℕ) → k ≤ 15 → length c ≡ 16 → place < k + 48
    → get_or (take k c ++ parity_of c k) place 0 ≡ coded_byte FIRST_REMAINDERS c k place
byte_is c k place few long lt =
    let front : length (take k c) ≡ k = length-take-le k c (omega (arith, few, long)) in
    elim (cases_lt place k) [
      | inl inside ↦
          get_or_append_left (take k c) (parity_of c k) 0 place (omega (arith, front, inside)) ∙ get_or-take k c place 0 inside
          ∙ ap (λ b. cond b (get_or c place 0) (symbol_sum FIRST_REMAINDERS c (place - k) k)) (sym (lt-ltb place k inside))
      | inr beyond ↦
          get_or-append_right (take k c) (parity_of c k) k place 0 front beyond ∙ symbol_of c (place - k) (omega (arith, lt, beyond)) k (omega (arith, few))
          ∙ ap (λ b. cond b (get_or c place 0) (symbol_sum FIRST_REMAINDERS c (place - k) k)) (sym (le-ltb place k beyond))
    ]

sum_step : (c : List ℕ) (p n : ℕ)
    → bit_xor (symbol_sum FIRST_REMAINDERS c p n) (times (get_or c n 0) (get_or FIRST_REMAINDERS (48 * n + p) 0)) ≡ symbol_sum FIRST_REMAINDERS c p (suc n)
unfolding symbol_sum
sum_step c p n = refl

-- one byte more
pub next_symbol : (c : List ℕ) (p n sum product : ℕ) → sum ≡ symbol_sum FIRST_REMAINDERS c p n
    → product ≡ times (get_or c n 0) (get_or FIRST_REMAINDERS (48 * n + p) 0) → bit_xor sum product ≡ symbol_sum FIRST_REMAINDERS c p (n + 1)
next_symbol c p n sum product before is =
    let e : suc n ≡ n + 1 = omega arith in
    ap₂ bit_xor before is ∙ sum_step c p n ∙ ap (symbol_sum FIRST_REMAINDERS c p) e

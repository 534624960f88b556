-- What remains of a message of few elements.
use Rattle.std.proofs.Common.{◌≡◌, ℕ, zero, suc, ◌+◌, ◌-◌, ◌*◌, ◌<◌, true, List, ◌++◌, length, take, drop, replicate, get_or, refl, sym, ap, ap₂, ◌∙◌, arith, bit_xor, append-nil}
use Rattle.std.proofs.Math.Seq.{take-add}
use Rattle.std.proofs.lemmas.List.{length-replicate, length-take-le}
use Rattle.std.specs.Int.Bits.{xor_self, xor_zero_r}
use lib.Lanes.{chunk}
use Rattle.gf_field.specs.Field.{power, times, polynomial_product, remainder}
use Rattle.gf_field.proofs.EachBelow.{each_at, each_below}
use Rattle.gf_field.proofs.Times.{one_times, times_assoc, zero_times}
use Rattle.rs_erase.specs.Equations.{nth_power, word_value}
use Rattle.rs_erase.specs.Polynomial.{add, scale}
use Rattle.rs_erase.specs.Register.{HasFirstRemainder, IsMultipleRemainder, IsRemainder}
use Rattle.rs_erase.specs.declared.first_remainders.TheConstants.{FIRST_REMAINDERS}
use Rattle.rs_erase.proofs.LaneRows.{zero_multiple}
use Rattle.rs_erase.proofs.PolynomialLaws.{length-scale}
use Rattle.rs_erase.proofs.RemainderTable.{length-nexts, next, nexts, nexts_value, same, same_is}
use Rattle.rs_erase.proofs.WordValues.{length-add_same, more_symbols, nth_power-lt, nth_power_add, word_value_add, word_value_append, word_value_scale, word_value_zeros}

-- ---- the table

-- The last row is what remains of x to the 239, and each is what remains of the next one times x.
last : same (chunk 720 48 FIRST_REMAINDERS) (nexts 191) ≡ true
unfolding same next nexts times polynomial_product remainder
last = refl

steps : each_below 15 (λ j. same (chunk (48 * j) 48 FIRST_REMAINDERS) (next (chunk (48 * (j + 1)) 48 FIRST_REMAINDERS))) ≡ true
unfolding same next times polynomial_product remainder
steps = refl

next_of : (n : ℕ) → next (nexts n) ≡ nexts (suc n)
unfolding nexts
next_of n = refl

-- so many rows before the last
row_before : (d : ℕ) → d < 16 → chunk (48 * (15 - d)) 48 FIRST_REMAINDERS ≡ nexts (191 + d)
row_before zero lt = same_is (chunk 720 48 FIRST_REMAINDERS) (nexts 191) last
row_before (suc d) lt =
    let j = 15 - suc d in
    let after : j + 1 ≡ 15 - d = omega (arith, lt) in
    same_is (chunk (48 * j) 48 FIRST_REMAINDERS) (next (chunk (48 * (j + 1)) 48 FIRST_REMAINDERS))
    (each_at 15 (λ j. same (chunk (48 * j) 48 FIRST_REMAINDERS) (next (chunk (48 * (j + 1)) 48 FIRST_REMAINDERS))) steps j (omega (arith, lt)))
    ∙ ap next (ap (λ q. chunk (48 * q) 48 FIRST_REMAINDERS) after ∙ row_before d (omega (arith, lt)))
    ∙ next_of (191 + d)
    ∙ ap nexts (let e : suc (191 + d) ≡ 191 + suc d = omega arith in e)

pub row_is : (j : ℕ) (row : List ℕ) → j < 16 → row ≡ chunk (48 * j) 48 FIRST_REMAINDERS → IsMultipleRemainder 1 (254 - j) row
row_is j row lt is =
    let at : row ≡ nexts (206 - j) =
    is ∙ ap (λ q. chunk (48 * q) 48 FIRST_REMAINDERS) (let e : j ≡ 15 - (15 - j) = omega (arith, lt) in e)
    ∙ row_before (15 - j) (omega (arith, lt)) ∙ ap nexts (let e : 191 + (15 - j) ≡ 206 - j = omega (arith, lt) in e) in
    record {
      long = ap (λ (r : List ℕ). length r) at ∙ length-nexts (206 - j);
      values = λ i pos le.
          ap (word_value (power i)) at ∙ nexts_value i (206 - j) pos le
          ∙ ap (nth_power (power i)) (let e : 48 + (206 - j) ≡ 254 - j = omega (arith, lt) in e)
          ∙ sym (one_times (nth_power (power i) (254 - j)) (nth_power-lt (power i) (254 - j)));
    }

-- ---- the sum

pub none_first : (w : List ℕ) → HasFirstRemainder w (replicate 48 0) 0
none_first w = record {
  long = refl;
  values = λ j pos le. word_value_zeros (power j) 48 ∙ sym (zero_times (nth_power (power j) 255));
}

pub next_first : (w r row new : List ℕ) (f k : ℕ) → k < 16 → k < length w → f ≡ get_or w k 0
    → IsMultipleRemainder 1 (254 - k) row → new ≡ add r (scale f row) → HasFirstRemainder w r k → HasFirstRemainder w new (k + 1)
next_first w r row new f k lt lw hf hrow is h =
    let lscale : length (scale f row) ≡ 48 = length-scale f row ∙ hrow.long in
    record {
      long = ap (λ (q : List ℕ). length q) is ∙ length-add_same r (scale f row) (h.long ∙ sym lscale) ∙ lscale;
      values = λ j pos le.
          let i = power j in
          ap (word_value i) is
          ∙ word_value_add i r (scale f row) (h.long ∙ sym lscale)
          ∙ ap₂ bit_xor
          (h.values j pos le ∙ ap (λ (p : ℕ). times (word_value i (take k w)) (nth_power i p)) (let e : 255 - k ≡ 254 - k + 1 = omega (arith, lt) in e))
          (word_value_scale i f row ∙ ap (times f) (hrow.values j pos le ∙ one_times (nth_power i (254 - k)) (nth_power-lt i (254 - k))))
          ∙ more_symbols i f k (254 - k) w lw hf
          ∙ ap (λ (p : ℕ). times (word_value i (take (k + 1) w)) (nth_power i p)) (let e : 254 - k ≡ 255 - (k + 1) = omega (arith, lt) in e);
    }

pub one_first : (w r row new : List ℕ) (f k : ℕ) → k < 16 → length w ≡ 255 → f ≡ get_or w k 0
    → IsMultipleRemainder 1 (254 - k) row → new ≡ add r (scale f row) → HasFirstRemainder w r k → HasFirstRemainder w new (k + 1)
one_first w r row new f k lt lw = next_first w r row new f k lt (omega (arith, lt, lw))

-- an element that is 0
pub zero_first : (w r : List ℕ) (k : ℕ) → k < 16 → length w ≡ 255 → 0 ≡ get_or w k 0 → HasFirstRemainder w r k → HasFirstRemainder w r (k + 1)
zero_first w r k lt lw hf h =
    let row = chunk (48 * k) 48 FIRST_REMAINDERS in
    let is = row_is k row lt refl in
    one_first w r row r 0 k lt lw hf is (zero_multiple r row (h.long ∙ sym is.long)) h

pub few_remainder : (w r : List ℕ) → take 191 (drop 16 w) ≡ replicate 191 0 → HasFirstRemainder w r 16 → IsRemainder (take 207 w) r
few_remainder w r zeros h = record {
  roots = λ j pos le.
      let i = power j in
      let v = word_value i (take 16 w) in
      let whole : word_value i (take 207 w) ≡ times v (nth_power i 191) =
      ap (word_value i) (take-add 16 191 w ∙ ap (λ (z : List ℕ). take 16 w ++ z) zeros)
      ∙ word_value_append i (take 16 w) (replicate 191 0)
      ∙ ap₂ bit_xor (ap (λ (n : ℕ). times v (nth_power i n)) (length-replicate {A = ℕ} 191 0)) (word_value_zeros i 191)
      ∙ xor_zero_r (times v (nth_power i 191)) in
      let moved : times (word_value i (take 207 w)) (nth_power i 48) ≡ times v (nth_power i 239) =
      ap (λ (x : ℕ). times x (nth_power i 48)) whole ∙ times_assoc v (nth_power i 191) (nth_power i 48) ∙ ap (times v) (sym (nth_power_add i 191 48)) in
      word_value_append i (take 207 w) r
      ∙ ap (λ (n : ℕ). bit_xor (times (word_value i (take 207 w)) (nth_power i n)) (word_value i r)) h.long
      ∙ ap₂ bit_xor moved (h.values j pos le)
      ∙ xor_self (times v (nth_power i 239));
}

-- the message is as long as one can be, so no zeros are put behind it
pub whole_message : (w : List ℕ) → length w ≡ 255 → take 207 w ++ replicate (207 - length (take 207 w)) 0 ≡ take 207 w
whole_message w lw =
    let long : length (take 207 w) ≡ 207 = length-take-le 207 w (omega (arith, lw)) in
    ap (λ (k : ℕ). take 207 w ++ replicate k 0) (let e : 207 - length (take 207 w) ≡ 0 = omega (arith, long) in e) ∙ append-nil (take 207 w)

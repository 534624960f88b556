-- The shift register of the parity.
use Rattle.std.proofs.Common.{◌≡◌, ℕ, ◌+◌, ◌-◌, ◌*◌, ◌/◌, ◌%◌, ◌<◌, ◌≤◌, ◌==◌, refl, List, [], ◌∷◌, ◌++◌, length, length-append, take, replicate, get_or, sym, ap, ap₂, ◌∙◌, arith, bit_xor}
use Rattle.std.proofs.Math.Seq.{take-add}
use Rattle.std.proofs.lemmas.Bool.{eqb-true}
use Rattle.std.proofs.lemmas.List.{append_assoc, length-replicate, take_all}
use Rattle.std.proofs.lemmas.Nat.{xor_comm}
use Rattle.std.specs.Int.Bits.{xor_assoc, xor_self, xor_zero_r}
use lib.Lanes.{chunk, zip2}
use Rattle.gf_field.specs.Field.{power, times}
use Rattle.gf_field.proofs.EachBelow.{each_at}
use Rattle.gf_field.proofs.Polynomial.{xor_four}
use Rattle.gf_field.proofs.Times.{times_assoc, times_comm, times_xor, times_zero, xor_times, zero_times}
use Rattle.rs_erase.specs.Code.{AreElements, IsCodeWord, word_of}
use Rattle.rs_erase.specs.Equations.{nth_power, word_value}
use Rattle.rs_erase.specs.Polynomial.{add}
use Rattle.rs_erase.specs.Register.{HasTaken, IsMultipleRemainder, IsRemainder}
use Rattle.rs_erase.proofs.CodeWords.{code_word_from}
use Rattle.rs_erase.proofs.Elements.{append_elements, zeros_elements}
use Rattle.rs_erase.proofs.LaneRows.{length_three, sum_is}
use Rattle.rs_erase.proofs.WordValues.{length-add_same, more_symbols, nth_power_add, value-reverse, word_value_add, word_value_append, word_value_zeros}

pub nothing_taken : IsRemainder [] (replicate 48 0)
nothing_taken = record { roots = λ j pos le. word_value_zeros (power j) 48 }

-- a zero before a message changes no remainder
pub leading_zero : (w r : List ℕ) → IsRemainder (0 ∷ w) r → IsRemainder w r
leading_zero w r h = record {
  roots = λ j pos le.
      sym (ap (bit_xor (word_value (power j) (w ++ r))) (zero_times (nth_power (power j) (length (w ++ r)))) ∙ xor_zero_r (word_value (power j) (w ++ r)))
      ∙ h.roots j pos le;
}

pub none_taken : (leaving moved : List ℕ) → length moved ≡ 48 → HasTaken leaving moved moved 0
none_taken leaving moved long = record {
  long = long;
  values = λ j pos le.
      sym (xor_zero_r (word_value (power j) moved)) ∙ ap (bit_xor (word_value (power j) moved)) (sym (zero_times (nth_power (power j) 64)));
}

two_nibbles : (f : ℕ) → f < 256 → bit_xor (f % 16) (16 * (f / 16)) ≡ f
two_nibbles f lt = eqb-true _ _ (each_at 256 (λ f. bit_xor (f % 16) (16 * (f / 16)) == f) refl f lt)

pub one_taken : (leaving moved r new low high : List ℕ) (f k : ℕ) → k < 16 → length leaving ≡ 16 → f ≡ get_or leaving k 0 → f < 256
    → IsMultipleRemainder (f % 16) (63 - k) low → IsMultipleRemainder (16 * (f / 16)) (63 - k) high → new ≡ add (add r low) high
    → HasTaken leaving moved r k → HasTaken leaving moved new (k + 1)
one_taken leaving moved r new low high f k lt ll hf small hlow hhigh is h =
    let llow = hlow.long in let lhigh = hhigh.long in let lr = h.long in
    let lsum : length (add r low) ≡ 48 = length-add_same r low (lr ∙ sym llow) ∙ llow in
    record {
      long = ap (λ (q : List ℕ). length q) is ∙ length-add_same (add r low) high (lsum ∙ sym lhigh) ∙ lhigh;
      values = λ j pos le.
          let i = power j in
          let start = word_value i moved in
          let n = nth_power i (63 - k) in
          let so_far = times (word_value i (take k leaving)) (nth_power i (63 - k + 1)) in
          let both : bit_xor (times (f % 16) n) (times (16 * (f / 16)) n) ≡ times f n =
          sym (xor_times (f % 16) (16 * (f / 16)) n) ∙ ap (λ (g : ℕ). times g n) (two_nibbles f small) in
          ap (word_value i) is
          ∙ word_value_add i (add r low) high (lsum ∙ sym lhigh)
          ∙ ap₂ bit_xor (word_value_add i r low (lr ∙ sym llow)) (hhigh.values j pos le)
          ∙ ap (λ (v : ℕ). bit_xor v (times (16 * (f / 16)) n))
          (ap₂ bit_xor
          (h.values j pos le ∙ ap (λ (p : ℕ). bit_xor start (times (word_value i (take k leaving)) (nth_power i p))) (let e : 64 - k ≡ 63 - k + 1 = omega arith in e))
          (hlow.values j pos le))
          ∙ xor_assoc (bit_xor start so_far) (times (f % 16) n) (times (16 * (f / 16)) n)
          ∙ ap (bit_xor (bit_xor start so_far)) both
          ∙ xor_assoc start so_far (times f n)
          ∙ ap (bit_xor start)
          (more_symbols i f k (63 - k) leaving (omega arith) hf
          ∙ ap (λ (p : ℕ). times (word_value i (take (k + 1) leaving)) (nth_power i p)) (let e : 63 - k ≡ 64 - (k + 1) = omega arith in e));
    }

-- the sums cancel where the old register was a remainder
sums_cancel : (n f b s m : ℕ) → times n (bit_xor m (bit_xor f b)) ≡ 0
    → bit_xor (bit_xor (times n m) s) (bit_xor (times n b) (bit_xor (times n f) s)) ≡ 0
sums_cancel n f b s m h =
    ap (bit_xor (bit_xor (times n m) s)) (sym (xor_assoc (times n b) (times n f) s))
    ∙ xor_four (times n m) s (bit_xor (times n b) (times n f)) s
    ∙ ap₂ bit_xor (ap (bit_xor (times n m)) (xor_comm (times n b) (times n f) ∙ sym (times_xor n f b)) ∙ sym (times_xor n m (bit_xor f b)) ∙ h) (xor_self s)
    ∙ xor_self 0

pub all_taken : (first second third symbols register : List ℕ) → length first ≡ 16 → length second ≡ 16 → length third ≡ 16 → length symbols ≡ 16
    → HasTaken (zip2 bit_xor first symbols) (second ++ (third ++ replicate 16 0)) register 16
    → (m : List ℕ) → IsRemainder m (first ++ (second ++ third)) → IsRemainder (m ++ symbols) register
all_taken first second third symbols register lf ls lt lsy h m r = record {
  roots = λ j pos le.
      let i = power j in
      let leaving = zip2 bit_xor first symbols in
      let n = nth_power i 16 in let big = nth_power i 48 in
      let mv = word_value i m in let sv = word_value i symbols in let fv = word_value i first in let rv = word_value i (second ++ third) in
      let lold : length (first ++ (second ++ third)) ≡ 48 = length_three first second third lf ls lt in
      let lrest : length (second ++ third) ≡ 32 = omega (arith, length-append second third) in
      let lleaving : length leaving ≡ 16 = ap (λ (q : List ℕ). length q) (sum_is first symbols (lf ∙ sym lsy)) ∙ length-add_same first symbols (lf ∙ sym lsy) ∙ lsy in
      let before : bit_xor (times mv big) (bit_xor (times fv (nth_power i 32)) rv) ≡ 0 =
      sym (word_value_append i m (first ++ (second ++ third))
      ∙ ap₂ bit_xor (ap (λ (k : ℕ). times mv (nth_power i k)) lold) (word_value_append i first (second ++ third) ∙ ap (λ (k : ℕ). bit_xor (times fv (nth_power i k)) rv) lrest)) ∙ r.roots j pos le in
      let start : word_value i (second ++ (third ++ replicate 16 0)) ≡ times n rv =
      ap (word_value i) (sym (append_assoc second third (replicate 16 0))) ∙ word_value_append i (second ++ third) (replicate 16 0)
      ∙ ap (bit_xor (times rv n)) (word_value_zeros i 16) ∙ xor_zero_r (times rv n) ∙ times_comm rv n in
      let whole : word_value i (take 16 leaving) ≡ bit_xor fv sv =
      ap (word_value i) (take_all 16 leaving (omega arith) ∙ sum_is first symbols (lf ∙ sym lsy)) ∙ word_value_add i first symbols (lf ∙ sym lsy) in
      let far : times fv big ≡ times n (times fv (nth_power i 32)) =
      ap (times fv) (nth_power_add i 16 32) ∙ sym (times_assoc fv n (nth_power i 32)) ∙ ap (λ (k : ℕ). times k (nth_power i 32)) (times_comm fv n) ∙ times_assoc n fv (nth_power i 32) in
      let new : word_value i register ≡ bit_xor (times n rv) (bit_xor (times n (times fv (nth_power i 32))) (times sv big)) =
      h.values j pos le ∙ ap₂ bit_xor start (ap (λ (k : ℕ). times k big) whole ∙ xor_times fv sv big ∙ ap (λ (k : ℕ). bit_xor k (times sv big)) far) in
      let old : times (word_value i (m ++ symbols)) big ≡ bit_xor (times n (times mv big)) (times sv big) =
      ap (λ (k : ℕ). times k big) (word_value_append i m symbols ∙ ap (λ (k : ℕ). bit_xor (times mv (nth_power i k)) sv) lsy)
      ∙ xor_times (times mv n) sv big ∙ ap (λ (k : ℕ). bit_xor k (times sv big)) (ap (λ (k : ℕ). times k big) (times_comm mv n) ∙ times_assoc n mv big) in
      word_value_append i (m ++ symbols) register
      ∙ ap (λ (k : ℕ). bit_xor (times (word_value i (m ++ symbols)) (nth_power i k)) (word_value i register)) h.long
      ∙ ap₂ bit_xor old new
      ∙ sums_cancel n (times fv (nth_power i 32)) rv (times sv big) (times mv big) (ap (times n) before ∙ times_zero n);
}

-- sixteen symbols more of a message
pub next_symbols : (i : ℕ) (xs : List ℕ) → take (16 * i) xs ++ chunk (16 * i) 16 xs ≡ take (16 * (i + 1)) xs
next_symbols i xs = sym (take-add (16 * i) 16 xs) ∙ ap (λ (k : ℕ). take k xs) (let e : 16 * i + 16 ≡ 16 * (i + 1) = omega arith in e)

length_word_of : (chunk parity : List ℕ) → length chunk ≤ 207 → length (word_of chunk parity) ≡ 207 + length parity
length_word_of chunk parity le =
    omega (arith, length-append (chunk ++ replicate (207 - length chunk) 0) parity, length-append chunk (replicate (207 - length chunk) 0), length-replicate {A = ℕ} (207 - length chunk) 0)

pub remainder_is_parity : (chunk parity : List ℕ) → length chunk ≤ 207 → AreElements chunk → length parity ≡ 48 → AreElements parity
    → IsRemainder (chunk ++ replicate (207 - length chunk) 0) parity → IsCodeWord (word_of chunk parity)
remainder_is_parity chunk parity le hc lp hp h =
    let elements : AreElements (word_of chunk parity) =
    append_elements (chunk ++ replicate (207 - length chunk) 0) parity (append_elements chunk (replicate (207 - length chunk) 0) hc (zeros_elements (207 - length chunk))) hp in
    code_word_from (word_of chunk parity) (let l = length_word_of chunk parity le in omega arith) elements
    (λ j pos le'. value-reverse (power j) (word_of chunk parity) elements ∙ h.roots j pos le')

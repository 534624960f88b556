-- The powers of 2.
use Rattle.std.proofs.Common.{◌≡◌, ℕ, ◌+◌, ◌-◌, ◌*◌, ◌/◌, ◌%◌, ◌^◌, ◌<◌, ◌≤◌, zero, suc, Bool, true, ◌==◌, ◌&&◌, not, refl, sym, ◌∙◌, ap, arith, inl, inr, zero-add}
use Rattle.std.proofs.Math.Nat.{suc-add}
use Rattle.std.proofs.lemmas.Bool.{and_parts, both_ways, not-true, eq-eqb, cases_lt}
use Rattle.gf_field.specs.Field.{times, power}
use Rattle.gf_field.specs.Laws.{AreFieldLaws, ArePowerLaws}
use Rattle.gf_field.proofs.Horner.{shifted}
use Rattle.gf_field.proofs.Times.{times-lt, times_assoc, times_comm, times_xor, times_one, one_times, two_times}
use Rattle.gf_field.proofs.Inverse.{product_of_squares, product_of_squares-lt, inverse_is, zero_of_times, times_cancel}

pub power-lt : (n : ℕ) → power n < 2 ^ 8
unfolding power
power-lt zero = omega arith
power-lt (suc n) = times-lt 2 (power n)

pub power_add : (m n : ℕ) → power (m + n) ≡ times (power m) (power n)
unfolding power
power_add zero n = ap power (zero-add n) ∙ sym (one_times (power n) (power-lt n))
power_add (suc m) n = ap power (suc-add m n) ∙ ap (times 2) (power_add m n) ∙ sym (times_assoc 2 (power m) (power n))

-- ---- each power comes again after 255 steps, and no earlier

-- x times 2, n times
doubled_to : ℕ → ℕ → ℕ
doubled_to zero a = a
doubled_to (suc n) a = doubled_to n (shifted a)

power_doubled : (n m : ℕ) → doubled_to n (power m) ≡ power (m + n)
unfolding doubled_to power
power_doubled zero m = ap power (let e : m ≡ m + 0 = omega arith in e)
power_doubled (suc n) m =
    ap (doubled_to n) (sym (two_times (power m) (power-lt m))) ∙ power_doubled n (suc m) ∙ ap power (let e : suc m + n ≡ m + suc n = omega arith in e)

pub power_255 : power 255 ≡ 1
unfolding power doubled_to shifted
power_255 = sym (power_doubled 255 0) ∙ one
  where
    one : doubled_to 255 1 ≡ 1
    one = refl

-- none of the n elements from a on is 1
none_is_one : ℕ → ℕ → Bool
none_is_one zero a = true
none_is_one (suc n) a = not (a == 1) && none_is_one n (shifted a)

no_power_is_one : (n m : ℕ) → none_is_one n (power m) ≡ true → (k : ℕ) → m ≤ k → k < m + n → power k ≡ 1 → ⊥
unfolding none_is_one power
no_power_is_one zero m h k le lt e = omega arith
no_power_is_one (suc n) m h k le lt e =
    let both = and_parts (not (power m == 1)) (none_is_one n (shifted (power m))) h in
    elim (cases_lt m k) [
      | inl later ↦
          no_power_is_one n (suc m) (ap (none_is_one n) (two_times (power m) (power-lt m)) ∙ both.1) k (omega arith) (omega arith) e
      | inr here ↦
          both_ways (power m == 1) (not-true (power m == 1) both.0)
          (eq-eqb (power m) 1 (ap power (let q : m ≡ k = omega arith in q) ∙ e))
    ]

none_from_2 : none_is_one 254 2 ≡ true
unfolding none_is_one shifted
none_from_2 = refl

no_early_one : (k : ℕ) → 0 < k → k < 255 → power k ≡ 1 → ⊥
unfolding power
no_early_one k pos lt e =
    no_power_is_one 254 1 (ap (none_is_one 254) (times_one 2 (omega arith)) ∙ none_from_2) k (omega arith) (omega arith) e

pub power-pos : (n : ℕ) → 0 < power n
unfolding power
power-pos zero = omega arith
power-pos (suc n) =
    let pos = power-pos n in
    elim (cases_lt 0 (times 2 (power n))) [
      | inl more ↦ more
      | inr none ↦
          let e : power n ≡ 0 = zero_of_times 2 (power n) (omega arith) (omega arith) (power-lt n) (let z : times 2 (power n) ≡ 0 = omega arith in z) in
          absurd (omega arith)
    ]

-- a later power is another one
later_apart : (m d : ℕ) → 0 < d → d < 255 → power m ≡ power (m + d) → ⊥
later_apart m d pos lt e =
    no_early_one d pos lt
    (times_cancel (power d) 1 (power m) (power-lt d) (omega arith) (power-pos m) (power-lt m)
    (times_comm (power d) (power m) ∙ sym (power_add m d) ∙ sym e ∙ sym (one_times (power m) (power-lt m))))

pub power_apart : (m n : ℕ) → m < 255 → n < 255 → power m ≡ power n → m ≡ n
power_apart m n lm ln e =
    elim (cases_lt m n) [
      | inl less ↦
          absurd (later_apart m (n - m) (omega arith) (omega arith) (e ∙ ap power (let q : n ≡ m + (n - m) = omega arith in q)))
      | inr ge ↦ elim (cases_lt n m) [
        | inl more ↦
            absurd (later_apart n (m - n) (omega arith) (omega arith) (sym e ∙ ap power (let q : m ≡ n + (m - n) = omega arith in q)))
        | inr le ↦ omega arith
      ]
    ]

-- ---- whole rounds

power_rounds : (q r : ℕ) → power (255 * q + r) ≡ power r
power_rounds zero r = ap power (let e : 255 * 0 + r ≡ r = omega arith in e)
power_rounds (suc q) r =
    ap power (let e : 255 * suc q + r ≡ 255 + (255 * q + r) = omega arith in e) ∙ power_add 255 (255 * q + r)
    ∙ ap (λ (a : ℕ). times a (power (255 * q + r))) power_255 ∙ one_times (power (255 * q + r)) (power-lt (255 * q + r)) ∙ power_rounds q r

pub power_rest : (n : ℕ) → power (n % 255) ≡ power n
power_rest n = sym (power_rounds (n / 255) (n % 255)) ∙ ap power (let e : 255 * (n / 255) + n % 255 ≡ n = omega arith in e)

-- ---- the laws together

pub field_laws : AreFieldLaws
field_laws = record {
  element = times-lt;
  commutative = times_comm;
  associative = times_assoc;
  distributive = times_xor;
  one = one_times;
  inverse = λ a pos la. (product_of_squares 7 a, product_of_squares-lt 6 a, inverse_is a pos la);
}

pub power_laws : ArePowerLaws
power_laws = record {
  element = power-lt;
  nonzero = power-pos;
  distinct = power_apart;
  sum = power_add;
  around = power_255;
}

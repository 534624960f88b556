-- A polynomial is a multiple of the generator where it has the generator's roots: one root after another is divided out.
use Rattle.std.proofs.Common.{[], List, ap, ap₂, arith, bit_xor, get_or, inl, inr, length, refl, subst, suc, sym, zero, ℕ, ◌+◌, ◌<◌, ◌∙◌, ◌∷◌, ◌≡◌, ◌≤◌}
use Rattle.std.proofs.lemmas.Bool.{cases_eq, cases_lt}
use Rattle.std.proofs.lemmas.Nat.{xor_comm, xor_of_8}
use Rattle.std.specs.Int.Bits.{xor_assoc, xor_self, xor_zero_r}
use Rattle.gf_field.proofs.Inverse.{zero_of_times}
use Rattle.gf_field.proofs.Polynomial.{same_from_xor}
use Rattle.gf_field.proofs.Powers.{power_apart, power-lt}
use Rattle.gf_field.proofs.Times.{one_times, times-lt, times_one, times_zero, zero_times}
use Rattle.gf_field.specs.Field.{power, times}
use Rattle.rs_erase.specs.Code.{AreElements, generator}
use Rattle.rs_erase.specs.Polynomial.{add, mul, scale, value}
use Rattle.rs_erase.proofs.Elements.{elements_head, elements_tail}
use Rattle.rs_erase.proofs.PolynomialLaws.{mul_assoc, one_mul, one_mul_all, value-lt, value_elements-lt, value_mul}

unfoldable pub quotient_by : ℕ → List ℕ → List ℕ
quotient_by r [] = []
quotient_by r (a ∷ []) = []
quotient_by r (a ∷ b ∷ p) = value r (b ∷ p) ∷ quotient_by r (b ∷ p)

pub xor_back : (t b : ℕ) → bit_xor t (bit_xor b t) ≡ b
xor_back t b = ap (bit_xor t) (xor_comm b t) ∙ sym (xor_assoc t t b) ∙ ap (λ (x : ℕ). bit_xor x b) (xor_self t)

pub along : (r b : ℕ) (p : List ℕ) → add (scale r (quotient_by r (b ∷ p))) (value r (b ∷ p) ∷ quotient_by r (b ∷ p)) ≡ b ∷ p
unfolding quotient_by
along r b [] = ap (λ (x : ℕ). x ∷ []) (ap (bit_xor b) (times_zero r) ∙ xor_zero_r b)
along r b (c ∷ p) = ap₂ (λ (x : ℕ) (xs : List ℕ). x ∷ xs) (xor_back (times r (value r (c ∷ p))) b) (along r c p)

pub quotient_elements : (r : ℕ) (p : List ℕ) → AreElements p → AreElements (quotient_by r p)
unfolding quotient_by
quotient_elements r [] h = λ k d lt. absurd (omega arith)
quotient_elements r (a ∷ []) h = λ k d lt. absurd (omega arith)
quotient_elements r (a ∷ b ∷ p) h = go (quotient_elements r (b ∷ p) (elements_tail a (b ∷ p) h))
  where
    go : AreElements (quotient_by r (b ∷ p)) → (k d : ℕ) → k < length (quotient_by r (a ∷ b ∷ p)) → get_or (quotient_by r (a ∷ b ∷ p)) k d < 256
    go inner zero d lt = value-lt r b p (h 1 0 (omega arith))
    go inner (suc k) d lt = inner k d (omega arith)

pub length-quotient : (r a : ℕ) (p : List ℕ) → length (quotient_by r (a ∷ p)) ≡ length p
unfolding quotient_by
length-quotient r a [] = refl
length-quotient r a (b ∷ p) = omega (arith, length-quotient r b p)

-- a polynomial with the root r is x - r times its quotient
pub factor : (r a b : ℕ) (p : List ℕ) → AreElements (a ∷ b ∷ p) → value r (a ∷ b ∷ p) ≡ 0 → mul (r ∷ 1 ∷ []) (quotient_by r (a ∷ b ∷ p)) ≡ a ∷ b ∷ p
unfolding quotient_by
factor r a b p h root =
    let w = value r (b ∷ p) in let q = quotient_by r (b ∷ p) in
    let elements : AreElements (w ∷ q) = quotient_elements r (a ∷ b ∷ p) h in
    let one : mul (1 ∷ []) (w ∷ q) ≡ w ∷ q =
    ap₂ (λ (x : ℕ) (xs : List ℕ). x ∷ xs) (xor_zero_r (times 1 w) ∙ one_times w (elements_head w q elements)) (one_mul_all q (elements_tail w q elements)) in
    let first : bit_xor (times r w) 0 ≡ a =
    xor_zero_r (times r w) ∙ ap (λ (x : ℕ). bit_xor x (times r w)) (sym root)
    ∙ xor_assoc a (times r w) (times r w) ∙ ap (bit_xor a) (xor_self (times r w)) ∙ xor_zero_r a in
    ap (λ (m : List ℕ). add (scale r (w ∷ q)) (0 ∷ m)) one
    ∙ ap₂ (λ (x : ℕ) (xs : List ℕ). x ∷ xs) first (along r b p)

pub value_linear : (x r : ℕ) → x < 256 → value x (r ∷ 1 ∷ []) ≡ bit_xor r x
value_linear x r lx = ap (bit_xor r) (ap (times x) (ap (bit_xor 1) (times_zero x)) ∙ times_one x lx)

pub generator_root : (n j : ℕ) → 0 < j → j ≤ n → value (power j) (generator n) ≡ 0
unfolding generator
generator_root zero j pos le = absurd (omega arith)
generator_root (suc n) j pos le =
    value_mul (power j) (generator n) (power (suc n) ∷ 1 ∷ [])
    ∙ elim (cases_lt n j) [
      | inl new ↦
          let same : j ≡ suc n = omega arith in
          ap (times (value (power j) (generator n)))
          (value_linear (power j) (power (suc n)) (power-lt j) ∙ ap (λ (k : ℕ). bit_xor (power (suc n)) (power k)) same ∙ xor_self (power (suc n)))
          ∙ times_zero (value (power j) (generator n))
      | inr old ↦
          ap (λ (v : ℕ). times v (value (power j) (power (suc n) ∷ 1 ∷ []))) (generator_root n j pos old)
          ∙ zero_times (value (power j) (power (suc n) ∷ 1 ∷ []))
    ]

pub generator_value-lt : (n x : ℕ) → value x (generator n) < 256
unfolding generator
generator_value-lt zero x = xor_of_8 1 (times x 0) (omega arith) (times-lt x 0)
generator_value-lt (suc n) x =
    let P : ℕ → Type 0 = λ v. v < 256 in
    subst P (sym (value_mul x (generator n) (power (suc n) ∷ 1 ∷ []))) (times-lt (value x (generator n)) (value x (power (suc n) ∷ 1 ∷ [])))

pub not_root : (n k : ℕ) → n < k → k < 255 → value (power k) (generator n) ≡ 0 → ⊥
unfolding generator
not_root zero k lt lk e =
    let one : bit_xor 1 (times (power k) 0) ≡ 1 = ap (bit_xor 1) (times_zero (power k)) in absurd (omega (arith, e, one))
not_root (suc n) k lt lk e =
    let v = value (power k) (generator n) in let l = value (power k) (power (suc n) ∷ 1 ∷ []) in
    let zero' : times v l ≡ 0 = sym (value_mul (power k) (generator n) (power (suc n) ∷ 1 ∷ [])) ∙ e in
    elim (cases_eq v 0) [
      | inl z ↦ not_root n k (omega arith) lk z
      | inr nz ↦
          let is : l ≡ bit_xor (power (suc n)) (power k) = value_linear (power k) (power (suc n)) (power-lt k) in
          let P : ℕ → Type 0 = λ w. w < 256 in
          let ll : l < 256 = subst P (sym is) (xor_of_8 (power (suc n)) (power k) (power-lt (suc n)) (power-lt k)) in
          let lz : l ≡ 0 = zero_of_times v l (omega arith) (generator_value-lt n (power k)) ll zero' in
          let same : suc n ≡ k = power_apart (suc n) k (omega arith) lk (same_from_xor (power (suc n)) (power k) (sym is ∙ lz)) in
          omega arith
    ]

-- q is a factor beside the generator of n roots
pub record IsFactor (n : ℕ) (p q : List ℕ) : Type 0 where
  pub long : length q + n ≡ length p
  pub elements : AreElements q
  pub whole : mul (generator n) q ≡ p

pub next_factor : (n : ℕ) (p q : List ℕ) → IsFactor n p q → suc n < length p → value (power (suc n)) q ≡ 0 → IsFactor (suc n) p (quotient_by (power (suc n)) q)
unfolding generator
next_factor n p [] f lt root = absurd (let h = f.long in omega arith)
next_factor n p (a ∷ []) f lt root = absurd (let h = f.long in omega arith)
next_factor n p (a ∷ b ∷ q) f lt root =
    let r = power (suc n) in
    record {
      long = let h = f.long in omega (arith, length-quotient r a (b ∷ q));
      elements = quotient_elements r (a ∷ b ∷ q) f.elements;
      whole =
          mul_assoc (generator n) (r ∷ 1 ∷ []) (quotient_by r (a ∷ b ∷ q)) (omega arith)
          ∙ ap (mul (generator n)) (factor r a b q f.elements root) ∙ f.whole;
    }

pub factor_from_roots : (n : ℕ) (p : List ℕ) → n < 255 → AreElements p → n < length p
    → ((j : ℕ) → 0 < j → j ≤ n → value (power j) p ≡ 0) → (q : List ℕ) × IsFactor n p q
unfolding generator
factor_from_roots zero [] ln elements lt roots = absurd (omega arith)
factor_from_roots zero (c ∷ p) ln elements lt roots = (c ∷ p, record { long = omega arith; elements = elements; whole = one_mul c p elements })
factor_from_roots (suc n) p ln elements lt roots =
    let before = factor_from_roots n p (omega arith) elements (omega arith) (λ j pos le. roots j pos (omega arith)) in
    let k = power (suc n) in
    let v = value k (generator n) in
    let both : times v (value k before.0) ≡ 0 = sym (value_mul k (generator n) before.0) ∙ ap (value k) before.1.whole ∙ roots (suc n) (omega arith) (omega arith) in
    let nz : v ≡ 0 → ⊥ = not_root n (suc n) (omega arith) ln in
    let root : value k before.0 ≡ 0 = zero_of_times v (value k before.0) (omega arith) (generator_value-lt n k) (value_elements-lt k before.0 before.1.elements) both in
    (quotient_by k before.0, next_factor n p before.0 before.1 (omega arith) root)

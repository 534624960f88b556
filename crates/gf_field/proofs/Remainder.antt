-- A polynomial has one remainder, and long division gives it.
use Rattle.std.proofs.Common.{◌≡◌, ℕ, ◌+◌, ◌-◌, ◌*◌, ◌/◌, ◌%◌, ◌^◌, ◌<◌, ◌≤◌, zero, suc, Bool, true, false, ◌==◌, ◌||◌, if◌then◌else◌, refl, sym, ◌∙◌, ap, ap₂, bit_xor, arith, ltb, nat_lt, not, subst, inl, inr}
use Rattle.std.specs.Int.Bits.{xor_assoc, xor_self, xor_zero_l, xor_zero_r}
use Rattle.std.proofs.lemmas.Nat.{xor_comm, xor_of_8, xor_lt, xor_block, pow-add}
use Rattle.std.proofs.lemmas.Bool.{eqb-true, or_cases, lt-ltb, both_ways, not-true, ltb-true, ltb-false}
use Rattle.std.proofs.Math.Nat.{pow-succ'}
use Rattle.gf_field.specs.Field.{modulus, polynomial_product, remainder, times, IsProduct}
use Rattle.gf_field.proofs.EachBelow.{each_at}
use Rattle.gf_field.proofs.Polynomial.{xor_four, same_from_xor, product_xor, polynomial_product_comm, product_raised, product_zero}

multiple_comm : (q : ℕ) → q < 2 ^ 8 → polynomial_product 8 q modulus ≡ polynomial_product 9 modulus q
multiple_comm q lq = polynomial_product_comm 9 8 q modulus lq (omega arith)

multiple_xor : (q r : ℕ) → q < 2 ^ 8 → r < 2 ^ 8
    → polynomial_product 8 (bit_xor q r) modulus ≡ bit_xor (polynomial_product 8 q modulus) (polynomial_product 8 r modulus)
multiple_xor q r lq lr =
    multiple_comm (bit_xor q r) (xor_of_8 q r lq lr) ∙ product_xor 9 modulus q r
    ∙ ap₂ bit_xor (sym (multiple_comm q lq)) (sym (multiple_comm r lr))

-- a multiple that is an element is 0
small_multiple : (q : ℕ) → q < 2 ^ 8 → polynomial_product 8 q modulus < 2 ^ 8 → polynomial_product 8 q modulus ≡ 0
unfolding polynomial_product
small_multiple q lq lt =
    elim (or_cases (not (ltb (polynomial_product 8 q modulus) 256)) (polynomial_product 8 q modulus == 0)
    (each_at 256 (λ q. not (ltb (polynomial_product 8 q modulus) 256) || (polynomial_product 8 q modulus == 0)) refl q lq)) [
      | inl large ↦
          let below : ltb (polynomial_product 8 q modulus) 256 ≡ true = lt-ltb (polynomial_product 8 q modulus) 256 lt in
          absurd (both_ways (ltb (polynomial_product 8 q modulus) 256) (not-true _ large) below)
      | inr none ↦ eqb-true _ _ none
    ]

-- two elements that differ from one polynomial by multiples are one
pub one_remainder : (a b c d : ℕ) → IsProduct a b c → IsProduct a b d → c ≡ d
one_remainder a b c d p r =
    let q = bit_xor p.quotient r.quotient in
    let m = polynomial_product 8 q modulus in
    let both : bit_xor (bit_xor (polynomial_product 8 p.quotient modulus) c) (bit_xor (polynomial_product 8 r.quotient modulus) d) ≡ 0 =
    ap₂ bit_xor (sym p.divides) (sym r.divides) ∙ xor_self (polynomial_product 8 a b) in
    let apart : bit_xor m (bit_xor c d) ≡ 0 =
    ap (λ (x : ℕ). bit_xor x (bit_xor c d)) (multiple_xor p.quotient r.quotient p.small r.small)
    ∙ sym (xor_four (polynomial_product 8 p.quotient modulus) c (polynomial_product 8 r.quotient modulus) d) ∙ both in
    let is : m ≡ bit_xor c d = same_from_xor m (bit_xor c d) apart in
    let P : ℕ → Type 0 = λ x. x < 2 ^ 8 in
    same_from_xor c d
    (sym is ∙ small_multiple q (xor_of_8 p.quotient r.quotient p.small r.small) (subst P (sym is) (xor_of_8 c d p.below r.below)))

-- ---- long division

-- what long division finds: a quotient, and the remainder
record IsDivided (n p r : ℕ) : Type 0 where
  below : r < 2 ^ 8
  quotient : ℕ
  small : quotient < 2 ^ n
  divides : p ≡ bit_xor (polynomial_product 9 modulus quotient) r

-- two numbers with the same highest bit
high_bits : (k p m : ℕ) → 2 ^ k ≤ p → p < 2 ^ suc k → 2 ^ k ≤ m → m < 2 ^ suc k → bit_xor p m < 2 ^ k
high_bits k p m gp lp gm lm =
    let e = pow-succ' 2 k in
    let r = p - 2 ^ k in
    let s = m - 2 ^ k in
    let lr : r < 2 ^ k = omega arith in
    let ls : s < 2 ^ k = omega arith in
    let ep : p ≡ 1 * 2 ^ k + r = omega arith in
    let em : m ≡ 1 * 2 ^ k + s = omega arith in
    let is : bit_xor p m ≡ bit_xor r s = ap₂ bit_xor ep em ∙ xor_block k 1 1 r s lr ls ∙ (let h : 0 * 2 ^ k + bit_xor r s ≡ bit_xor r s = omega arith in h) in
    let P : ℕ → Type 0 = λ x. x < 2 ^ k in
    subst P (sym is) (xor_lt k r s lr ls)

pow-pos : (n : ℕ) → 0 < 2 ^ n
pow-pos zero = omega arith
pow-pos (suc n) = let h = pow-pos n in let e = pow-succ' 2 n in omega arith

pow_8 : (n : ℕ) → 2 ^ (8 + n) ≡ 256 * 2 ^ n
pow_8 n = pow-add 2 8 n

modulus_once : polynomial_product 9 modulus 1 ≡ modulus
unfolding polynomial_product
modulus_once = refl

-- a step that takes nothing away
same_divided : (n p r : ℕ) → IsDivided n p r → IsDivided (suc n) p r
same_divided n p r d =
    let e = pow-succ' 2 n in
    let lq = d.small in
    record { below = d.below; quotient = d.quotient; small = omega arith; divides = d.divides }

-- a step that takes the modulus times x to the n away
less_divided : (n p r : ℕ) → IsDivided n (bit_xor p (2 ^ n * modulus)) r → IsDivided (suc n) p r
less_divided n p r d =
    let m = 2 ^ n * modulus in
    let e = pow-succ' 2 n in
    let q = d.quotient in
    let lq = d.small in
    let v = polynomial_product 9 modulus q in
    let one : polynomial_product 9 modulus (2 ^ n) ≡ m =
    ap (polynomial_product 9 modulus) (let h : 2 ^ n ≡ 2 ^ n * 1 = omega arith in h)
    ∙ product_raised 9 modulus 1 n ∙ ap (λ (z : ℕ). 2 ^ n * z) modulus_once in
    record {
      below = d.below;
      quotient = bit_xor q (2 ^ n);
      small = xor_lt (suc n) q (2 ^ n) (omega arith) (omega (arith, pow-pos n));
      divides =
          sym (xor_zero_r p) ∙ ap (bit_xor p) (sym (xor_self m)) ∙ sym (xor_assoc p m m)
          ∙ ap (λ (z : ℕ). bit_xor z m) d.divides
          ∙ xor_assoc v r m ∙ ap (bit_xor v) (xor_comm r m) ∙ sym (xor_assoc v m r)
          ∙ ap (λ (z : ℕ). bit_xor z r) (sym (product_xor 9 modulus q (2 ^ n) ∙ ap (bit_xor v) one));
    }

long_division : (n p : ℕ) → p < 2 ^ (8 + n) → IsDivided n p (remainder n p)
unfolding remainder
long_division zero p lt = record {
  below = lt;
  quotient = 0;
  small = omega arith;
  divides = sym (ap (λ (z : ℕ). bit_xor z p) (product_zero 9 modulus) ∙ xor_zero_l p);
}
long_division (suc n) p lt = go (long_division n) (nat_lt p (2 ^ (8 + n))) refl
  where
    go : ((s : ℕ) → s < 2 ^ (8 + n) → IsDivided n s (remainder n s)) → (t : Bool) → nat_lt p (2 ^ (8 + n)) ≡ t → IsDivided (suc n) p (remainder n (if t then p else bit_xor p (2 ^ n * modulus)))
    go rest true h = same_divided n p (remainder n p) (rest p (ltb-true p (2 ^ (8 + n)) h))
    go rest false h =
        let m = 2 ^ n * modulus in
        let k = pow_8 n in
        let e : 2 ^ (8 + suc n) ≡ 2 ^ suc (8 + n) = ap (λ (i : ℕ). 2 ^ i) (let s : 8 + suc n ≡ suc (8 + n) = omega arith in s) in
        let k' = pow-succ' 2 (8 + n) in
        less_divided n p (remainder n (bit_xor p m))
        (rest (bit_xor p m) (high_bits (8 + n) p m (ltb-false p (2 ^ (8 + n)) h) (omega arith) (omega arith) (omega arith)))

-- ---- the product of elements

chosen-lt : (t : Bool) (b : ℕ) → b < 2 ^ 8 → (if t then 0 else b) < 2 ^ 8
chosen-lt true b lb = omega arith
chosen-lt false b lb = lb

product-lt : (n a b : ℕ) → b < 2 ^ 8 → polynomial_product (suc n) a b < 2 ^ (8 + n)
unfolding polynomial_product
product-lt zero a b lb = xor_lt 8 (if a % 2 == 0 then 0 else b) 0 (chosen-lt (a % 2 == 0) b lb) (omega arith)
product-lt (suc n) a b lb =
    let s = if a % 2 == 0 then 0 else b in
    let ls : s < 2 ^ 8 = chosen-lt (a % 2 == 0) b lb in
    let h = product-lt n (a / 2) b lb in
    let k = pow_8 n in
    let k' = pow_8 (suc n) in
    let e = pow-succ' 2 n in
    let pos = pow-pos n in
    xor_lt (8 + suc n) s (2 * polynomial_product (suc n) (a / 2) b) (omega arith) (omega arith)

pub times_is_product : (a b : ℕ) → a < 2 ^ 8 → b < 2 ^ 8 → IsProduct a b (times a b)
unfolding times
times_is_product a b la lb =
    let ea : a % 2 ^ 8 ≡ a = omega arith in
    let eb : b % 2 ^ 8 ≡ b = omega arith in
    let d = long_division 7 (polynomial_product 8 (a % 2 ^ 8) (b % 2 ^ 8)) (product-lt 7 (a % 2 ^ 8) (b % 2 ^ 8) (omega arith)) in
    let lq = d.small in
    record {
      below = d.below;
      quotient = d.quotient;
      small = omega arith;
      divides =
          ap₂ (polynomial_product 8) (sym ea) (sym eb) ∙ d.divides
          ∙ ap (λ (z : ℕ). bit_xor z (remainder 7 (polynomial_product 8 (a % 2 ^ 8) (b % 2 ^ 8)))) (sym (multiple_comm d.quotient (omega arith)));
    }

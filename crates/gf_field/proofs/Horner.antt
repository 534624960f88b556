-- The product of elements from the highest term on, in which no step leaves the elements.
use Rattle.std.proofs.Common.{◌≡◌, ℕ, ◌+◌, ◌*◌, ◌/◌, ◌%◌, ◌^◌, ◌<◌, zero, suc, Bool, true, false, ◌==◌, if◌then◌else◌, refl, sym, ◌∙◌, ap, ap₂, bit_xor, arith, ltb}
use Rattle.std.specs.Int.Bits.{xor_assoc, xor_self, xor_zero_l}
use Rattle.std.proofs.lemmas.Nat.{xor_comm, xor_of_8, xor_shr}
use Rattle.std.proofs.lemmas.Bool.{ltb-true}
use Rattle.std.proofs.Math.Nat.{pow-succ'}
use Rattle.gf_field.specs.Field.{modulus, polynomial_product, IsProduct}
use Rattle.gf_field.proofs.EachBelow.{each_at}
use Rattle.gf_field.proofs.Polynomial.{xor_four, double_xor}

-- an element times x, as an element
unfoldable pub shifted : ℕ → ℕ
shifted a = bit_xor (2 * a) (if a / 2 ^ 7 == 0 then 0 else modulus)

-- the element that is the product of a and b, where a has a degree below n
unfoldable pub product_to : ℕ → ℕ → ℕ → ℕ
product_to zero a b = 0
product_to (suc n) a b = bit_xor (if a % 2 == 0 then 0 else b) (shifted (product_to n (a / 2) b))

pub shifted-lt : (a : ℕ) → a < 2 ^ 8 → shifted a < 2 ^ 8
unfolding shifted
shifted-lt a la = ltb-true _ _ (each_at 256 (λ a. ltb (shifted a) 256) refl a la)

pub chosen-lt : (t : Bool) (b : ℕ) → b < 2 ^ 8 → (if t then 0 else b) < 2 ^ 8
chosen-lt true b lb = omega arith
chosen-lt false b lb = lb

pub product_to-lt : (n a b : ℕ) → b < 2 ^ 8 → product_to n a b < 2 ^ 8
unfolding product_to
product_to-lt zero a b lb = omega arith
product_to-lt (suc n) a b lb =
    xor_of_8 _ _ (chosen-lt (a % 2 == 0) b lb) (shifted-lt (product_to n (a / 2) b) (product_to-lt n (a / 2) b lb))

-- ---- x goes through sums

two_bits : (c d : ℕ) → c < 2 → d < 2 → (if bit_xor c d == 0 then 0 else modulus) ≡ bit_xor (if c == 0 then 0 else modulus) (if d == 0 then 0 else modulus)
two_bits zero zero lc ld = refl
two_bits zero (suc zero) lc ld = refl
two_bits (suc zero) zero lc ld = refl
two_bits (suc zero) (suc zero) lc ld = refl
two_bits (suc (suc c)) d lc ld = absurd (omega arith)
two_bits zero (suc (suc d)) lc ld = absurd (omega arith)
two_bits (suc zero) (suc (suc d)) lc ld = absurd (omega arith)

pub shifted_xor : (a b : ℕ) → a < 2 ^ 8 → b < 2 ^ 8 → shifted (bit_xor a b) ≡ bit_xor (shifted a) (shifted b)
unfolding shifted
shifted_xor a b la lb =
    ap₂ bit_xor (double_xor a b)
    (ap (λ (h : ℕ). if h == 0 then 0 else modulus) (xor_shr a b 7) ∙ two_bits (a / 2 ^ 7) (b / 2 ^ 7) (omega arith) (omega arith))
    ∙ xor_four (2 * a) (2 * b) (if a / 2 ^ 7 == 0 then 0 else modulus) (if b / 2 ^ 7 == 0 then 0 else modulus)

-- ---- what is left out is a multiple of the modulus

product_twice : (n q c b : ℕ) → c < 2 → polynomial_product (suc n) (2 * q + c) b ≡ bit_xor (if c == 0 then 0 else b) (2 * polynomial_product n q b)
unfolding polynomial_product
product_twice n q c b lc =
    let low : (2 * q + c) % 2 ≡ c = omega arith in
    let high : (2 * q + c) / 2 ≡ q = omega arith in
    ap₂ (λ (l h : ℕ). bit_xor (if l == 0 then 0 else b) (2 * polynomial_product n h b)) low high

-- the quotient, one bit for each step
quotient_to : ℕ → ℕ → ℕ → ℕ
quotient_to zero a b = 0
quotient_to (suc n) a b = 2 * quotient_to n (a / 2) b + product_to n (a / 2) b / 2 ^ 7

quotient_to-lt : (n a b : ℕ) → b < 2 ^ 8 → quotient_to n a b < 2 ^ n
unfolding quotient_to
quotient_to-lt zero a b lb = omega arith
quotient_to-lt (suc n) a b lb =
    let r = product_to-lt n (a / 2) b lb in
    let q = quotient_to-lt n (a / 2) b lb in
    let e = pow-succ' 2 n in omega arith

divided : (n a b : ℕ) → b < 2 ^ 8 → polynomial_product n a b ≡ bit_xor (polynomial_product n (quotient_to n a b) modulus) (product_to n a b)
unfolding polynomial_product product_to shifted quotient_to
divided zero a b lb = refl
divided (suc n) a b lb =
    let s = if a % 2 == 0 then 0 else b in
    let q = quotient_to n (a / 2) b in
    let r = product_to n (a / 2) b in
    let c = r / 2 ^ 7 in
    let m = if c == 0 then 0 else modulus in
    let p = 2 * polynomial_product n q modulus in
    let lr = product_to-lt n (a / 2) b lb in
    ap (λ (z : ℕ). bit_xor s (2 * z)) (divided n (a / 2) b lb)
    ∙ ap (bit_xor s) (double_xor (polynomial_product n q modulus) r)
    ∙ moved s p (2 * r) m
    ∙ ap (λ (z : ℕ). bit_xor z (bit_xor s (bit_xor (2 * r) m))) (sym (product_twice n q c modulus (omega arith)))
  where
    moved : (s p r m : ℕ) → bit_xor s (bit_xor p r) ≡ bit_xor (bit_xor m p) (bit_xor s (bit_xor r m))
    moved s p r m =
        sym
        (ap (λ (z : ℕ). bit_xor z (bit_xor s (bit_xor r m))) (xor_comm m p) ∙ xor_four p m s (bit_xor r m)
        ∙ ap₂ bit_xor (xor_comm p s)
        (ap (bit_xor m) (xor_comm r m) ∙ sym (xor_assoc m m r) ∙ ap (λ (z : ℕ). bit_xor z r) (xor_self m) ∙ xor_zero_l r)
        ∙ xor_assoc s p r)

pub product_to_is_product : (a b : ℕ) → b < 2 ^ 8 → IsProduct a b (product_to 8 a b)
product_to_is_product a b lb = record {
  below = product_to-lt 8 a b lb;
  quotient = quotient_to 8 a b;
  small = quotient_to-lt 8 a b lb;
  divides = divided 8 a b lb;
}

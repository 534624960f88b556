-- Products of polynomials over bits.
use Rattle.std.proofs.Common.{◌≡◌, ℕ, ◌+◌, ◌*◌, ◌/◌, ◌%◌, ◌^◌, ◌<◌, zero, suc, Bool, true, false, ◌==◌, if◌then◌else◌, refl, sym, ◌∙◌, ap, ap₂, bit_xor, arith}
use Rattle.std.specs.Int.Bits.{xor_assoc, xor_self, xor_zero_l, xor_zero_r}
use Rattle.std.proofs.lemmas.Nat.{xor_comm, xor_block}
use Rattle.std.proofs.Math.Nat.{pow-succ', mul_assoc}
use Rattle.gf_field.specs.Field.{polynomial_product}

pub xor_four : (a b c d : ℕ) → bit_xor (bit_xor a b) (bit_xor c d) ≡ bit_xor (bit_xor a c) (bit_xor b d)
xor_four a b c d =
    xor_assoc a b (bit_xor c d)
    ∙ ap (bit_xor a) (sym (xor_assoc b c d) ∙ ap (λ (x : ℕ). bit_xor x d) (xor_comm b c) ∙ xor_assoc c b d)
    ∙ sym (xor_assoc a c (bit_xor b d))

pub same_from_xor : (a b : ℕ) → bit_xor a b ≡ 0 → a ≡ b
same_from_xor a b e =
    sym (xor_zero_r a) ∙ ap (bit_xor a) (sym (xor_self b)) ∙ sym (xor_assoc a b b) ∙ ap (λ (x : ℕ). bit_xor x b) e ∙ xor_zero_l b

pub double_xor : (a b : ℕ) → 2 * bit_xor a b ≡ bit_xor (2 * a) (2 * b)
double_xor a b =
    let twice : (n : ℕ) → n * 2 + 0 ≡ 2 * n = λ n. omega arith in
    sym (twice (bit_xor a b)) ∙ sym (xor_block 1 a b 0 0 (omega arith) (omega arith)) ∙ ap₂ bit_xor (twice a) (twice b)

pub chosen_xor : (t : Bool) (b c : ℕ) → (if t then 0 else bit_xor b c) ≡ bit_xor (if t then 0 else b) (if t then 0 else c)
chosen_xor true b c = refl
chosen_xor false b c = refl

pub product_xor : (n a b c : ℕ) → polynomial_product n a (bit_xor b c) ≡ bit_xor (polynomial_product n a b) (polynomial_product n a c)
unfolding polynomial_product
product_xor zero a b c = refl
product_xor (suc n) a b c =
    let t = a % 2 == 0 in
    ap₂ bit_xor (chosen_xor t b c)
    (ap (λ (p : ℕ). 2 * p) (product_xor n (a / 2) b c) ∙ double_xor (polynomial_product n (a / 2) b) (polynomial_product n (a / 2) c))
    ∙ xor_four (if t then 0 else b) (if t then 0 else c) (2 * polynomial_product n (a / 2) b) (2 * polynomial_product n (a / 2) c)

chosen_double : (t : Bool) (b : ℕ) → (if t then 0 else 2 * b) ≡ 2 * (if t then 0 else b)
chosen_double true b = refl
chosen_double false b = refl

product_double : (n a b : ℕ) → polynomial_product n a (2 * b) ≡ 2 * polynomial_product n a b
unfolding polynomial_product
product_double zero a b = refl
product_double (suc n) a b =
    ap₂ bit_xor (chosen_double (a % 2 == 0) b) (ap (λ (p : ℕ). 2 * p) (product_double n (a / 2) b))
    ∙ sym (double_xor (if a % 2 == 0 then 0 else b) (2 * polynomial_product n (a / 2) b))

-- times x to the k
pub product_raised : (n a b k : ℕ) → polynomial_product n a (2 ^ k * b) ≡ 2 ^ k * polynomial_product n a b
product_raised n a b zero =
    let one : (m : ℕ) → 2 ^ 0 * m ≡ m = λ m. omega arith in
    ap (polynomial_product n a) (one b) ∙ sym (one (polynomial_product n a b))
product_raised n a b (suc k) =
    let twice : (m : ℕ) → 2 ^ suc k * m ≡ 2 * (2 ^ k * m) = λ m. ap (λ (p : ℕ). p * m) (pow-succ' 2 k) ∙ mul_assoc 2 (2 ^ k) m in
    ap (polynomial_product n a) (twice b) ∙ product_double n a (2 ^ k * b) ∙ ap (λ (p : ℕ). 2 * p) (product_raised n a b k)
    ∙ sym (twice (polynomial_product n a b))

pub product_zero : (n a : ℕ) → polynomial_product n a 0 ≡ 0
unfolding polynomial_product
product_zero zero a = refl
product_zero (suc n) a = ap₂ bit_xor (nothing (a % 2 == 0)) (ap (λ (p : ℕ). 2 * p) (product_zero n (a / 2)))
  where
    nothing : (t : Bool) → ◌≡◌ {A = ℕ} (if t then 0 else 0) 0
    nothing true = refl
    nothing false = refl

lowest : (b : ℕ) → b < 2 → (if b == 0 then 0 else 1) ≡ b
lowest zero lt = refl
lowest (suc zero) lt = refl
lowest (suc (suc b)) lt = absurd (omega arith)

-- a number by its lowest bit and its half
halves : (a : ℕ) → bit_xor (if a % 2 == 0 then 0 else 1) (2 * (a / 2)) ≡ a
halves a =
    let bit : a % 2 < 2 = omega arith in
    ap₂ bit_xor (lowest (a % 2) bit ∙ (let e : a % 2 ≡ 0 * 2 + a % 2 = omega arith in e)) (let e : 2 * (a / 2) ≡ a / 2 * 2 + 0 = omega arith in e)
    ∙ xor_block 1 0 (a / 2) (a % 2) 0 bit (omega arith)
    ∙ ap₂ (λ (h l : ℕ). h * 2 + l) (xor_zero_l (a / 2)) (xor_zero_r (a % 2)) ∙ (let e : a / 2 * 2 + a % 2 ≡ a = omega arith in e)

half-lt : (n a : ℕ) → a < 2 ^ suc n → a / 2 < 2 ^ n
half-lt n a lt = let e = pow-succ' 2 n in omega arith

product_one : (n a : ℕ) → a < 2 ^ n → polynomial_product n a 1 ≡ a
unfolding polynomial_product
product_one zero a lt = let e : 0 ≡ a = omega arith in e
product_one (suc n) a lt =
    ap (λ (p : ℕ). bit_xor (if a % 2 == 0 then 0 else 1) (2 * p)) (product_one n (a / 2) (half-lt n a lt)) ∙ halves a

product_bit : (n a : ℕ) (t : Bool) → a < 2 ^ n → polynomial_product n a (if t then 0 else 1) ≡ (if t then 0 else a)
product_bit n a true lt = product_zero n a
product_bit n a false lt = product_one n a lt

pub polynomial_product_comm : (m n a b : ℕ) → a < 2 ^ n → b < 2 ^ m → polynomial_product n a b ≡ polynomial_product m b a
unfolding polynomial_product
polynomial_product_comm zero n a b la lb = ap (polynomial_product n a) (let e : b ≡ 0 = omega arith in e) ∙ product_zero n a
polynomial_product_comm (suc m) n a b la lb =
    let t = b % 2 == 0 in
    ap (polynomial_product n a) (sym (halves b)) ∙ product_xor n a (if t then 0 else 1) (2 * (b / 2))
    ∙ ap₂ bit_xor (product_bit n a t la) (product_double n a (b / 2) ∙ ap (λ (p : ℕ). 2 * p) (polynomial_product_comm m n a (b / 2) la (half-lt m b lb)))

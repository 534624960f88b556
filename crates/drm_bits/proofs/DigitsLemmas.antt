-- The digits of numbers that are shifted, added bit by bit or turned over.
use Rattle.std.proofs.Common.{◌≡◌, ℕ, zero, suc, ◌+◌, ◌-◌, ◌*◌, ◌/◌, ◌%◌, ◌^◌, ◌<◌, ◌≤◌, nat_eq, false, not, [], ◌∷◌, ◌++◌, refl, sym, ◌∙◌, ap, arith, bit_xor, Bool, List, true, length}
use Rattle.std.proofs.Math.Nat.{mod-mod, mul-div_cancel, mul-add-mod_self_right, mul-mod_left, mod-eq_of_lt, mod-one, div-one}
use Rattle.std.proofs.lemmas.Nat.{field_of, mod-pow-add, div-mul-add}
use Rattle.std.proofs.lemmas.Nat.Bits.{bit_at_xor, bit_at_not, bit_at-suc, bit_at-lt}
use Rattle.std.specs.Int.{bit_at, bit_not, Width, from_bool}
use mir.Val.{bits}
use Rattle.drm_bits.specs.Bits.{value, digits}
use Rattle.drm_bits.specs.Crc.{plus, sum, complement}
use Rattle.drm_bits.proofs.BitsLemmas.{length-digits, value-below}

pub digits-push : (w n : ℕ) → digits (suc w) n ≡ digits w (n / 2) ++ nat_eq (n % 2) 1 ∷ []
unfolding digits
digits-push zero n = ap (λ k. nat_eq (k % 2) 1 ∷ []) (div-one n)
digits-push (suc w) n =
    ap (λ k. nat_eq k 1 ∷ digits (suc w) n) (bit_at-suc n w) ∙ ap (λ l. nat_eq (bit_at (n / 2) w) 1 ∷ l) (digits-push w n)

-- the bits from m on don't count below
bit_at-mod : (n m k : ℕ) → k < m → n % 2 ^ m / 2 ^ k % 2 ≡ n / 2 ^ k % 2
bit_at-mod n m k below =
    let j : ℕ = m - suc k in
    let parts : m ≡ j + 1 + k = omega arith in
    ap (λ x. n % 2 ^ x / 2 ^ k % 2) parts
    ∙ (ap (λ x. x % 2) (field_of n (j + 1) k)
    ∙ (ap (λ x. x % 2) (mod-pow-add (n / 2 ^ k) j 1)
    ∙ (mul-add-mod_self_right (n / 2 ^ k / 2 % 2 ^ j) 2 (n / 2 ^ k % 2) ∙ mod-mod (n / 2 ^ k) 2)))

pub digits-mod : (w m n : ℕ) → w ≤ m → digits w (n % 2 ^ m) ≡ digits w n
unfolding digits
digits-mod zero m n within = refl
digits-mod (suc w) m n within =
    ap (λ k. nat_eq k 1 ∷ digits w (n % 2 ^ m)) (bit_at-mod n m w within) ∙ ap (λ l. nat_eq (n / 2 ^ w % 2) 1 ∷ l) (digits-mod w m n (omega arith))

-- a shift by one place
pub digits-doubled : (w n : ℕ) → digits (suc w) (n * 2 % 2 ^ suc w) ≡ digits w n ++ false ∷ []
digits-doubled w n =
    digits-mod (suc w) (suc w) (n * 2) (omega arith)
    ∙ (digits-push w (n * 2)
    ∙ (ap (λ k. digits w k ++ nat_eq (n * 2 % 2) 1 ∷ []) (mul-div_cancel n (omega arith))
    ∙ ap (λ k. digits w n ++ nat_eq k 1 ∷ []) (mul-mod_left n 2)))

bit_sum : (x y : ℕ) → x < 2 → y < 2 → nat_eq ((x + y) % 2) 1 ≡ plus (nat_eq x 1) (nat_eq y 1)
bit_sum zero zero h k = refl
bit_sum zero (suc zero) h k = refl
bit_sum zero (suc (suc y)) h k = absurd (omega (arith, k))
bit_sum (suc zero) zero h k = refl
bit_sum (suc zero) (suc zero) h k = refl
bit_sum (suc zero) (suc (suc y)) h k = absurd (omega (arith, k))
bit_sum (suc (suc x)) y h k = absurd (omega (arith, h))

pub digits-xor : (w a b : ℕ) → digits w (bit_xor a b) ≡ sum (digits w a) (digits w b)
unfolding digits
digits-xor zero a b = refl
digits-xor (suc w) a b = rw (bit_at_xor a b w, bit_sum (bit_at a w) (bit_at b w) (bit_at-lt a w) (bit_at-lt b w), digits-xor w a b) refl

bit_turned : (x : ℕ) → x < 2 → nat_eq (1 - x) 1 ≡ not (nat_eq x 1)
bit_turned zero h = refl
bit_turned (suc zero) h = refl
bit_turned (suc (suc x)) h = absurd (omega (arith, h))

pub digits-not : (width : Width) (k n : ℕ) → k ≤ bits width → n < 2 ^ bits width → digits k (bit_not width n) ≡ complement (digits k n)
unfolding digits
digits-not width zero n within below = refl
digits-not width (suc k) n within below =
    let inside : k < bits width = within in
    rw (bit_at_not width n k below inside, bit_turned (bit_at n k) (bit_at-lt n k), digits-not width k n (omega arith) below) refl

pub bit_again : (x : ℕ) → x < 2 → from_bool (nat_eq x 1) ≡ x
bit_again zero h = refl
bit_again (suc zero) h = refl
bit_again (suc (suc x)) h = absurd (omega (arith, h))

pub value-mod : (w n : ℕ) → value (digits w n) ≡ n % 2 ^ w
unfolding digits
value-mod zero n = sym (mod-one n)
value-mod (suc w) n =
    rw (bit_again (bit_at n w) (bit_at-lt n w), length-digits w n, value-mod w n) (sym (mod-pow-add n 1 w) ∙ ap (λ k. n % 2 ^ k) (omega arith))

pub value-digits : (w n : ℕ) → n < 2 ^ w → value (digits w n) ≡ n
value-digits w n below = value-mod w n ∙ mod-eq_of_lt below

bit_of_bool : (b : Bool) → nat_eq (from_bool b % 2) 1 ≡ b
bit_of_bool true = refl
bit_of_bool false = refl

-- the digits of a value
pub digits-value : (w : ℕ) (bs : List Bool) → length bs ≡ w → digits w (value bs) ≡ bs
unfolding digits
digits-value zero [] size = refl
digits-value zero (b ∷ bs) size = absurd (omega (arith, size))
digits-value (suc w) [] size = absurd (omega (arith, size))
digits-value (suc w) (b ∷ bs) size =
    let size_rest : length bs ≡ w = omega (arith, size) in
    let n : ℕ = from_bool b * 2 ^ w + value bs in
    let whole : value (b ∷ bs) ≡ n = ap (λ k. from_bool b * 2 ^ k + value bs) size_rest in
    let below : value bs < 2 ^ w = rw size_rest at (value-below bs) in
    let top : n / 2 ^ w ≡ from_bool b = div-mul-add (from_bool b) (2 ^ w) (value bs) below in
    let low : n % 2 ^ w ≡ value bs = mul-add-mod_self_right (from_bool b) (2 ^ w) (value bs) ∙ mod-eq_of_lt below in
    let rest : digits w n ≡ bs = sym (digits-mod w w n (omega arith)) ∙ (ap (digits w) low ∙ digits-value w bs size_rest) in
    ap (digits (suc w)) whole
    ∙ (ap (λ k. nat_eq (k % 2) 1 ∷ digits w n) top
    ∙ (ap (λ c. c ∷ digits w n) (bit_of_bool b) ∙ ap (λ l. b ∷ l) rest))

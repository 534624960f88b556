-- The laws of `times`, with no bound on the numbers.
use Rattle.std.proofs.Common.{◌≡◌, ℕ, ◌%◌, ◌^◌, ◌<◌, refl, sym, ◌∙◌, ap, ap₂, bit_xor, subst, ◌==◌, arith}
use Rattle.std.proofs.lemmas.Nat.{xor_mod}
use Rattle.std.proofs.lemmas.Bool.{eqb-true}
use Rattle.gf_field.specs.Field.{remainder, polynomial_product, times, IsProduct}
use Rattle.gf_field.specs.Laws.{ProductIsRemainder}
use Rattle.gf_field.proofs.EachBelow.{each_at}
use Rattle.gf_field.proofs.Horner.{shifted}
use Rattle.gf_field.proofs.Remainder.{one_remainder, times_is_product}
use Rattle.gf_field.proofs.Product.{product, product-lt, product_is_times, product_comm, product_xor, product_assoc, zero_product}

low : (a : ℕ) → a % 2 ^ 8 < 2 ^ 8
low a = omega arith

low_low : (a : ℕ) → a < 2 ^ 8 → a % 2 ^ 8 ≡ a
low_low a lt = omega arith

-- `times` by the lowest eight bits
times_low : (a b : ℕ) → times a b ≡ product (a % 2 ^ 8) (b % 2 ^ 8)
unfolding times
times_low a b =
    ap₂ (λ (x y : ℕ). remainder 7 (polynomial_product 8 x y)) (sym (low_low (a % 2 ^ 8) (low a))) (sym (low_low (b % 2 ^ 8) (low b)))
    ∙ sym (product_is_times (a % 2 ^ 8) (b % 2 ^ 8) (low a) (low b))

pub times-lt : (a b : ℕ) → times a b < 2 ^ 8
times-lt a b = let P : ℕ → Type 0 = λ n. n < 2 ^ 8 in subst P (sym (times_low a b)) (product-lt (a % 2 ^ 8) (b % 2 ^ 8) (low b))

pub times_comm : (a b : ℕ) → times a b ≡ times b a
times_comm a b = times_low a b ∙ product_comm (a % 2 ^ 8) (b % 2 ^ 8) (low a) (low b) ∙ sym (times_low b a)

low_times : (a b : ℕ) → times a b % 2 ^ 8 ≡ product (a % 2 ^ 8) (b % 2 ^ 8)
low_times a b = low_low (times a b) (times-lt a b) ∙ times_low a b

pub times_assoc : (a b c : ℕ) → times (times a b) c ≡ times a (times b c)
times_assoc a b c =
    times_low (times a b) c ∙ ap (λ (x : ℕ). product x (c % 2 ^ 8)) (low_times a b)
    ∙ product_assoc (a % 2 ^ 8) (b % 2 ^ 8) (c % 2 ^ 8) (low b) (low c)
    ∙ ap (product (a % 2 ^ 8)) (sym (low_times b c)) ∙ sym (times_low a (times b c))

pub times_xor : (a b c : ℕ) → times a (bit_xor b c) ≡ bit_xor (times a b) (times a c)
times_xor a b c =
    times_low a (bit_xor b c) ∙ ap (product (a % 2 ^ 8)) (xor_mod b c 8)
    ∙ product_xor (a % 2 ^ 8) (b % 2 ^ 8) (c % 2 ^ 8) (low b) (low c) ∙ ap₂ bit_xor (sym (times_low a b)) (sym (times_low a c))

pub xor_times : (a b c : ℕ) → times (bit_xor a b) c ≡ bit_xor (times a c) (times b c)
xor_times a b c = times_comm (bit_xor a b) c ∙ times_xor c a b ∙ ap₂ bit_xor (times_comm c a) (times_comm c b)

pub zero_times : (a : ℕ) → times 0 a ≡ 0
zero_times a = times_low 0 a ∙ zero_product (a % 2 ^ 8)

pub times_zero : (a : ℕ) → times a 0 ≡ 0
times_zero a = times_comm a 0 ∙ zero_times a

pub times_one : (a : ℕ) → a < 2 ^ 8 → times a 1 ≡ a
unfolding times remainder polynomial_product
times_one a lt = eqb-true _ _ (each_at 256 (λ a. times a 1 == a) refl a lt)

pub one_times : (a : ℕ) → a < 2 ^ 8 → times 1 a ≡ a
one_times a lt = times_comm 1 a ∙ times_one a lt

pub two_times : (a : ℕ) → a < 2 ^ 8 → times 2 a ≡ shifted a
unfolding times remainder polynomial_product shifted
two_times a lt = eqb-true _ _ (each_at 256 (λ a. times 2 a == shifted a) refl a lt)

pub is_product : (a b r : ℕ) → a < 2 ^ 8 → b < 2 ^ 8 → r ≡ times a b → IsProduct a b r
is_product a b r la lb e = subst (λ (c : ℕ). IsProduct a b c) (sym e) (times_is_product a b la lb)

pub product_is_remainder : ProductIsRemainder
product_is_remainder a b c la lb = (
  λ h. one_remainder a b c (times a b) h (times_is_product a b la lb),
  λ e. is_product a b c la lb e,
)

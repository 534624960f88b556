-- Inverses.
use Rattle.std.proofs.Common.{◌≡◌, ℕ, ◌^◌, ◌<◌, zero, suc, ◌==◌, ◌||◌, refl, sym, ◌∙◌, ap, bit_xor, arith, inl, inr}
use Rattle.std.specs.Int.Bits.{xor_self}
use Rattle.std.proofs.lemmas.Nat.{xor_of_8}
use Rattle.std.proofs.lemmas.Bool.{or_cases, eqb-true}
use Rattle.gf_field.specs.Field.{times, remainder, polynomial_product}
use Rattle.gf_field.proofs.EachBelow.{each_at}
use Rattle.gf_field.proofs.Polynomial.{same_from_xor}
use Rattle.gf_field.proofs.Times.{times-lt, times_assoc, times_comm, xor_times, times_zero, one_times}

pub square : ℕ → ℕ
square a = times a a

-- a to the 2 to the n
unfoldable pub squared : ℕ → ℕ → ℕ
squared zero a = a
squared (suc n) a = square (squared n a)

-- the product of these from the first to the n-th
unfoldable pub product_of_squares : ℕ → ℕ → ℕ
product_of_squares zero a = 1
product_of_squares (suc n) a = times (product_of_squares n a) (squared (suc n) a)

pub product_of_squares-lt : (n a : ℕ) → product_of_squares (suc n) a < 2 ^ 8
unfolding product_of_squares
product_of_squares-lt n a = times-lt (product_of_squares n a) (squared (suc n) a)

pub inverse_is : (a : ℕ) → 0 < a → a < 2 ^ 8 → times a (product_of_squares 7 a) ≡ 1
unfolding times remainder polynomial_product square squared product_of_squares
inverse_is a pos la =
    elim (or_cases (a == 0) (times a (product_of_squares 7 a) == 1) (each_at 256 (λ a. (a == 0) || (times a (product_of_squares 7 a) == 1)) refl a la)) [
      | inl none ↦ let e : a ≡ 0 = eqb-true a 0 none in absurd (omega arith)
      | inr one ↦ eqb-true _ _ one
    ]

pub zero_of_times : (a b : ℕ) → 0 < a → a < 2 ^ 8 → b < 2 ^ 8 → times a b ≡ 0 → b ≡ 0
zero_of_times a b pos la lb e =
    let i = product_of_squares 7 a in
    sym (one_times b lb) ∙ ap (λ (x : ℕ). times x b) (sym (inverse_is a pos la) ∙ times_comm a i)
    ∙ times_assoc i a b ∙ ap (times i) e ∙ times_zero i

pub times_cancel : (a b d : ℕ) → a < 2 ^ 8 → b < 2 ^ 8 → 0 < d → d < 2 ^ 8 → times a d ≡ times b d → a ≡ b
times_cancel a b d la lb pos ld e =
    same_from_xor a b
    (zero_of_times d (bit_xor a b) pos ld (xor_of_8 a b la lb)
    (times_comm d (bit_xor a b) ∙ xor_times a b d ∙ ap (λ (x : ℕ). bit_xor x (times b d)) e ∙ xor_self (times b d)))

-- The laws of the product from the highest term on.
use Rattle.std.proofs.Common.{◌≡◌, ℕ, ◌/◌, ◌%◌, ◌^◌, ◌<◌, zero, suc, Bool, true, false, ◌==◌, if◌then◌else◌, refl, sym, ◌∙◌, ap, ap₂, bit_xor}
use Rattle.std.proofs.lemmas.Nat.{xor_of_8}
use Rattle.gf_field.specs.Field.{times, IsProduct}
use Rattle.gf_field.proofs.Polynomial.{xor_four, chosen_xor, polynomial_product_comm}
use Rattle.gf_field.proofs.Horner.{shifted, product_to, shifted-lt, chosen-lt, product_to-lt, shifted_xor, product_to_is_product}
use Rattle.gf_field.proofs.Remainder.{one_remainder, times_is_product}

unfoldable pub product : ℕ → ℕ → ℕ
product a b = product_to 8 a b

pub product-lt : (a b : ℕ) → b < 2 ^ 8 → product a b < 2 ^ 8
unfolding product
product-lt a b lb = product_to-lt 8 a b lb

-- it is the product of the definition
pub product_is_times : (a b : ℕ) → a < 2 ^ 8 → b < 2 ^ 8 → product a b ≡ times a b
unfolding product
product_is_times a b la lb = one_remainder a b (product_to 8 a b) (times a b) (product_to_is_product a b lb) (times_is_product a b la lb)

is_product_comm : (a b c : ℕ) → a < 2 ^ 8 → b < 2 ^ 8 → IsProduct a b c → IsProduct b a c
is_product_comm a b c la lb h = record {
  below = h.below;
  quotient = h.quotient;
  small = h.small;
  divides = polynomial_product_comm 8 8 b a lb la ∙ h.divides;
}

pub product_comm : (a b : ℕ) → a < 2 ^ 8 → b < 2 ^ 8 → product a b ≡ product b a
unfolding product
product_comm a b la lb =
    one_remainder a b (product_to 8 a b) (product_to 8 b a) (product_to_is_product a b lb)
    (is_product_comm b a (product_to 8 b a) lb la (product_to_is_product b a la))

product_to_xor : (n a b c : ℕ) → b < 2 ^ 8 → c < 2 ^ 8 → product_to n a (bit_xor b c) ≡ bit_xor (product_to n a b) (product_to n a c)
unfolding product_to
product_to_xor zero a b c lb lc = refl
product_to_xor (suc n) a b c lb lc =
    ap₂ bit_xor (chosen_xor (a % 2 == 0) b c)
    (ap shifted (product_to_xor n (a / 2) b c lb lc)
    ∙ shifted_xor (product_to n (a / 2) b) (product_to n (a / 2) c) (product_to-lt n (a / 2) b lb) (product_to-lt n (a / 2) c lc))
    ∙ xor_four (if a % 2 == 0 then 0 else b) (if a % 2 == 0 then 0 else c) (shifted (product_to n (a / 2) b)) (shifted (product_to n (a / 2) c))

pub product_xor : (a b c : ℕ) → b < 2 ^ 8 → c < 2 ^ 8 → product a (bit_xor b c) ≡ bit_xor (product a b) (product a c)
unfolding product
product_xor a b c lb lc = product_to_xor 8 a b c lb lc

xor_product : (a b c : ℕ) → a < 2 ^ 8 → b < 2 ^ 8 → c < 2 ^ 8 → product (bit_xor a b) c ≡ bit_xor (product a c) (product b c)
xor_product a b c la lb lc =
    product_comm (bit_xor a b) c (xor_of_8 a b la lb) lc ∙ product_xor c a b la lb
    ∙ ap₂ bit_xor (product_comm c a lc la) (product_comm c b lc lb)

chosen_shifted : (t : Bool) (b : ℕ) → (if t then 0 else shifted b) ≡ shifted (if t then 0 else b)
unfolding shifted
chosen_shifted true b = refl
chosen_shifted false b = refl

pub product_to_shifted : (n a b : ℕ) → b < 2 ^ 8 → product_to n a (shifted b) ≡ shifted (product_to n a b)
unfolding product_to
product_to_shifted zero a b lb = chosen_shifted true b
product_to_shifted (suc n) a b lb =
    let rest = product_to-lt n (a / 2) b lb in
    ap₂ bit_xor (chosen_shifted (a % 2 == 0) b) (ap shifted (product_to_shifted n (a / 2) b lb))
    ∙ sym (shifted_xor (if a % 2 == 0 then 0 else b) (shifted (product_to n (a / 2) b)) (chosen-lt (a % 2 == 0) b lb) (shifted-lt (product_to n (a / 2) b) rest))

product_shifted : (a b : ℕ) → a < 2 ^ 8 → b < 2 ^ 8 → product (shifted a) b ≡ shifted (product a b)
unfolding product
product_shifted a b la lb =
    product_comm (shifted a) b (shifted-lt a la) lb ∙ product_to_shifted 8 b a la ∙ ap shifted (product_comm b a lb la)

pub zero_product : (c : ℕ) → product 0 c ≡ 0
unfolding product product_to shifted
zero_product c = refl

chosen_product : (t : Bool) (b c : ℕ) → product (if t then 0 else b) c ≡ (if t then 0 else product b c)
chosen_product true b c = zero_product c
chosen_product false b c = refl

product_to_assoc : (n a b c : ℕ) → b < 2 ^ 8 → c < 2 ^ 8 → product (product_to n a b) c ≡ product_to n a (product b c)
unfolding product_to
product_to_assoc zero a b c lb lc = zero_product c
product_to_assoc (suc n) a b c lb lc =
    let rest = product_to-lt n (a / 2) b lb in
    xor_product (if a % 2 == 0 then 0 else b) (shifted (product_to n (a / 2) b)) c (chosen-lt (a % 2 == 0) b lb)
    (shifted-lt (product_to n (a / 2) b) rest) lc
    ∙ ap₂ bit_xor (chosen_product (a % 2 == 0) b c)
    (product_shifted (product_to n (a / 2) b) c rest lc ∙ ap shifted (product_to_assoc n (a / 2) b c lb lc))

pub product_assoc : (a b c : ℕ) → b < 2 ^ 8 → c < 2 ^ 8 → product (product a b) c ≡ product a (product b c)
unfolding product
product_assoc a b c lb lc = product_to_assoc 8 a b c lb lc

-- The field of 256 elements (TS 102 821). A polynomial over bits is a number: its bit i is the coefficient of x to the i,
-- and a sum of polynomials is `bit_xor`. An element is a polynomial of degree below 8.
use Rattle.std.specs.Prelude.{ℕ, ◌≡◌, ◌+◌, ◌*◌, ◌/◌, ◌%◌, ◌^◌, ◌<◌, zero, suc, ◌==◌, if◌then◌else◌, nat_lt, bit_xor}

-- x^8 + x^4 + x^3 + x^2 + 1
abbrev pub modulus : ℕ
modulus = 0x11d

-- the product of two polynomials, of which the first has a degree below n
unfoldable pub polynomial_product : ℕ → ℕ → ℕ → ℕ
polynomial_product zero a b = 0
polynomial_product (suc n) a b = bit_xor (if a % 2 == 0 then 0 else b) (2 * polynomial_product n (a / 2) b)

-- c is what remains of the product of the elements a and b when it is divided by the modulus
pub record IsProduct (a b c : ℕ) : Type 0 where
  pub below : c < 2 ^ 8
  pub quotient : ℕ
  pub small : quotient < 2 ^ 8
  pub divides : polynomial_product 8 a b ≡ bit_xor (polynomial_product 8 quotient modulus) c

-- what remains of a polynomial of degree below 8 + n, by long division
unfoldable pub remainder : ℕ → ℕ → ℕ
remainder zero p = p
remainder (suc n) p = remainder n (if nat_lt p (2 ^ (8 + n)) then p else bit_xor p (2 ^ n * modulus))

-- the product of two elements; of a number that is none, the lowest eight bits count
unfoldable pub times : ℕ → ℕ → ℕ
times a b = remainder 7 (polynomial_product 8 (a % 2 ^ 8) (b % 2 ^ 8))

-- 2 to the n
unfoldable pub power : ℕ → ℕ
power zero = 1
power (suc n) = times 2 (power n)

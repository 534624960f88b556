-- The laws of the field.
use Rattle.std.specs.Prelude.{ℕ, ◌≡◌, ◌+◌, ◌^◌, ◌<◌, ◌↔◌, List, bit_xor, slice_index}
use Rattle.gf_field.specs.Field.{IsProduct, times, power}

-- `times` gives what remains of the product of polynomials, and nothing else remains of it
abbrev pub ProductIsRemainder : Type 0
ProductIsRemainder = (a b c : ℕ) → a < 2 ^ 8 → b < 2 ^ 8 → IsProduct a b c ↔ (c ≡ times a b)

-- products are elements; their order and grouping do not matter; they go through sums; each element but 0 has an inverse
pub record AreFieldLaws : Type 0 where
  pub element : (a b : ℕ) → times a b < 2 ^ 8
  pub commutative : (a b : ℕ) → times a b ≡ times b a
  pub associative : (a b c : ℕ) → times (times a b) c ≡ times a (times b c)
  pub distributive : (a b c : ℕ) → times a (bit_xor b c) ≡ bit_xor (times a b) (times a c)
  pub one : (a : ℕ) → a < 2 ^ 8 → times 1 a ≡ a
  pub inverse : (a : ℕ) → 0 < a → a < 2 ^ 8 → (b : ℕ) × (b < 2 ^ 8) × (times a b ≡ 1)

-- the powers of 2 below the 255th are distinct elements other than 0, and there they begin again
pub record ArePowerLaws : Type 0 where
  pub element : (n : ℕ) → power n < 2 ^ 8
  pub nonzero : (n : ℕ) → 0 < power n
  pub distinct : (m n : ℕ) → m < 255 → n < 255 → power m ≡ power n → m ≡ n
  pub sum : (m n : ℕ) → power (m + n) ≡ times (power m) (power n)
  pub around : power 255 ≡ 1

-- place j of a table of powers holds 2 to the j
abbrev pub ArePowers : List ℕ → Type 0
ArePowers powers = (j : ℕ) → j < 255 → slice_index powers j ≡ power j

-- place v of a table of logarithms holds the place of v among the powers, and place 0 holds 0
pub record AreLogarithms (logs powers : List ℕ) : Type 0 where
  pub none : slice_index logs 0 ≡ 0
  pub below : (v : ℕ) → 0 < v → v < 2 ^ 8 → slice_index logs v < 255
  pub power : (v : ℕ) → 0 < v → v < 2 ^ 8 → slice_index powers (slice_index logs v) ≡ v

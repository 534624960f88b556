-- What the parity's register holds.
use Rattle.std.specs.Prelude.{ℕ, ◌≡◌, ◌+◌, ◌-◌, ◌*◌, ◌<◌, ◌≤◌, List, ◌++◌, bit_xor, length, take}
use Rattle.std.specs.Simd.Lanes.{chunk}
use Rattle.gf_field.specs.Field.{power, times}
use Rattle.rs_erase.specs.Equations.{nth_power, word_value}

-- the message with the register behind it has the 48 roots
pub record IsRemainder (message register : List ℕ) : Type 0 where
  pub roots : (j : ℕ) → 0 < j → j ≤ 48 → word_value (power j) (message ++ register) ≡ 0

-- the register was what remains of a message, and is what remains of it with these symbols behind it
abbrev pub TakesIn : List ℕ → List ℕ → List ℕ → Type 0
TakesIn symbols old new =
    (message : List ℕ) → IsRemainder message old → IsRemainder (message ++ symbols) new

-- the register that was moved by sixteen places, and what remains of the first k coefficients that left it
pub record HasTaken (leaving moved register : List ℕ) (k : ℕ) : Type 0 where
  pub long : length register ≡ 48
  pub values : (j : ℕ) → 0 < j → j ≤ 48 → word_value (power j) register
      ≡ bit_xor (word_value (power j) moved) (times (word_value (power j) (take k leaving)) (nth_power (power j) (64 - k)))

-- what remains of a multiple of x to the p: it has the same values at the roots
pub record IsMultipleRemainder (factor p : ℕ) (row : List ℕ) : Type 0 where
  pub long : length row ≡ 48
  pub values : (j : ℕ) → 0 < j → j ≤ 48 → word_value (power j) row ≡ times factor (nth_power (power j) p)

-- for four powers of x, from the highest down, the multiples by the elements of four bits, and then by these times 16
pub record AreMultiples (highest : ℕ) (rows : List ℕ) : Type 0 where
  pub low : (i n : ℕ) → i < 4 → n < 16 → IsMultipleRemainder n (highest - i) (chunk (48 * (32 * i + n)) 48 rows)
  pub high : (i n : ℕ) → i < 4 → n < 16 → IsMultipleRemainder (16 * n) (highest - i) (chunk (48 * (32 * i + 16 + n)) 48 rows)

-- what remains of the first k elements of a message of 207, with zeros behind them
pub record HasFirstRemainder (word register : List ℕ) (k : ℕ) : Type 0 where
  pub long : length register ≡ 48
  pub values : (j : ℕ) → 0 < j → j ≤ 48 → word_value (power j) register ≡ times (word_value (power j) (take k word)) (nth_power (power j) (255 - k))

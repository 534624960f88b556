-- Logarithms of products of sums of locators.
use Rattle.std.specs.Prelude.{ℕ, zero, suc, ◌≡◌, ◌≢◌, ◌+◌, ◌-◌, ◌*◌, ◌%◌, ◌<◌, ◌≤◌, List, [], ◌∷◌, bit_xor, slice_index}
use Rattle.gf_field.specs.Field.{power}

-- place n of a table has the logarithm of the sum of 2 to the n and 1, from 1 to 509; where that is 0 it has 0
pub record AreZechLogarithms (table : List ℕ) : Type 0 where
  pub none : slice_index table 255 ≡ 0
  pub power : (n : ℕ) → 0 < n → n < 510 → n ≢ 255 → power (slice_index table n) ≡ bit_xor (power n) 1

-- what the table holds at the distances of the place b from these, 255 added, in all
unfoldable pub zech_sum : List ℕ → ℕ → List ℕ → ℕ
zech_sum table b [] = 0
zech_sum table b (e ∷ es) = slice_index table (255 - e + b) + zech_sum table b es

-- The same in runs of places that stand so far from one another: of the n places from s on,
unfoldable pub run_sum : List ℕ → ℕ → ℕ → ℕ → ℕ → ℕ
run_sum table distance b s zero = 0
run_sum table distance b s (suc n) = run_sum table distance b s n + slice_index table (255 - (s + distance * n) + b)

-- and of the first runs, by where each starts and how many places it has.
unfoldable pub runs_sum : List ℕ → ℕ → ℕ → List ℕ → List ℕ → ℕ → ℕ
runs_sum table distance b starts lens zero = 0
runs_sum table distance b starts lens (suc r) =
    runs_sum table distance b starts lens r + run_sum table distance b (slice_index starts r) (slice_index lens r)

-- all places of the first runs are a word's
abbrev pub AreRunsWithin : ℕ → List ℕ → List ℕ → ℕ → Type 0
AreRunsWithin distance starts lens used =
    (r : ℕ) → r < used → (slice_index starts r < 255) × (slice_index starts r + distance * slice_index lens r ≤ 254 + distance)

-- each of these adds what the table holds at its place, of 255 that come again and again, to the one so far before it
pub record AreRunningSums (table : List ℕ) (distance : ℕ) (sums : List ℕ) : Type 0 where
  pub first : (t : ℕ) → t < 768 → t < distance → slice_index sums t ≡ slice_index table (t % 255)
  pub later : (t : ℕ) → t < 768 → distance ≤ t → 0 < distance → slice_index sums t ≡ slice_index sums (t - distance) + slice_index table (t % 255)
  pub small : (t : ℕ) → t < 768 → slice_index sums t ≤ 255 * 768

-- The code (TS 102 821): words of 255 elements of which 48 are parity.
use Rattle.std.specs.Prelude.{ℕ, ◌≡◌, ◌+◌, ◌-◌, ◌^◌, ◌<◌, zero, suc, List, [], ◌∷◌, ◌++◌, length, reverse, replicate, slice_index}
use Rattle.std.specs.List.{All, Contains}
use Rattle.gf_field.specs.Field.{power}
use Rattle.rs_erase.specs.Polynomial.{mul, value}

-- elements of the field
abbrev pub AreElements : List ℕ → Type 0
AreElements xs = All (λ a. a < 2 ^ 8) xs

-- the product of x - 2^j for j from 1 to n; a difference is a sum
unfoldable pub generator : ℕ → List ℕ
generator zero = 1 ∷ []
generator (suc n) = mul (generator n) (power (suc n) ∷ 1 ∷ [])

-- 255 elements, the first one the coefficient of the highest power, that are a product of the generator with 48 roots and
-- a polynomial of degree below 207
pub record IsCodeWord (word : List ℕ) : Type 0 where
  pub long : length word ≡ 255
  pub factor : List ℕ
  pub elements : AreElements factor
  pub degree : length factor ≡ 207
  pub product : reverse word ≡ mul (generator 48) factor

-- the chunk, zeros up to 207 elements, and the parity
abbrev pub word_of : List ℕ → List ℕ → List ℕ
word_of chunk parity = chunk ++ replicate (207 - length chunk) 0 ++ parity

-- the values of a word at the 48 roots of the generator
pub record AreSyndromes (word syndromes : List ℕ) : Type 0 where
  pub long : length syndromes ≡ 48
  pub each : (j : ℕ) → j < 48 → slice_index syndromes j ≡ value (power (j + 1)) (reverse word)

-- places of a word, each after the one before it
pub record ArePlaces (places : List ℕ) : Type 0 where
  pub below : (k : ℕ) → k < length places → slice_index places k < 255
  pub rising : (k : ℕ) → k + 1 < length places → slice_index places k < slice_index places (k + 1)

-- the second word is as long, and differs from the first at no place but these
pub record AgreesOutside (places : List ℕ) (old new : List ℕ) : Type 0 where
  pub long : length new ≡ length old
  pub same : (k : ℕ) → ¬ (Contains places k) → slice_index new k ≡ slice_index old k

-- a code word agrees with this word outside these places
pub record HasCodeWord (places : List ℕ) (old : List ℕ) : Type 0 where
  pub word : List ℕ
  pub code_word : IsCodeWord word
  pub agrees : AgreesOutside places old word

-- no other code word than the new word agrees with the old one outside these places
abbrev pub IsOnlyCodeWord : List ℕ → List ℕ → List ℕ → Type 0
IsOnlyCodeWord places old new =
    (other : List ℕ) → IsCodeWord other → AgreesOutside places old other → other ≡ new

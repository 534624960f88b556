-- The laws of the code.
use Rattle.std.specs.Prelude.{ℕ, ◌≡◌, ◌<◌, ◌≤◌, ◌↔◌, ◌⊎◌, List, length, reverse}
use Rattle.gf_field.specs.Field.{power}
use Rattle.rs_erase.specs.Polynomial.{value}
use Rattle.rs_erase.specs.Code.{AreElements, IsCodeWord, ArePlaces, AgreesOutside, HasCodeWord, word_of}

-- a word is a code word exactly where its values at the 48 roots are 0
abbrev pub CodeWordsHaveTheRoots : Type 0
CodeWordsHaveTheRoots =
    (word : List ℕ) → length word ≡ 255 → AreElements word
    → IsCodeWord word ↔ ((j : ℕ) → 0 < j → j ≤ 48 → value (power j) (reverse word) ≡ 0)

-- two code words that agree outside at most 48 places are one
abbrev pub OneCodeWord : Type 0
OneCodeWord =
    (places first second : List ℕ) → ArePlaces places → length places ≤ 48
    → IsCodeWord first → IsCodeWord second → AgreesOutside places first second → second ≡ first

-- a chunk has one parity
abbrev pub OneParity : Type 0
OneParity =
    (chunk first second : List ℕ) → length chunk ≤ 207
    → IsCodeWord (word_of chunk first) → IsCodeWord (word_of chunk second) → second ≡ first

-- whether a code word agrees with a word outside at most 48 places can be told
abbrev pub CodeWordOrNone : Type 0
CodeWordOrNone =
    (places word : List ℕ) → ArePlaces places → length places ≤ 48 → length word ≡ 255 → AreElements word
    → HasCodeWord places word ⊎ (HasCodeWord places word → ⊥)

-- Words that are joined are the words again.
use Rattle.std.proofs.Common.{◌≡◌, ℕ, suc, ◌<◌, ◌^◌, not, eqb, true, false, List, [], ◌∷◌, ◌++◌, length, refl, ap, ◌∙◌, arith}
use Rattle.std.specs.Prelude.{filter, ◌==◌, decimal}
use Rattle.std.specs.List.{slice_split, join_with_byte, AllByRecursion}
use Rattle.std.proofs.lemmas.Bool.{ne_eqb}
use Rattle.std.proofs.lemmas.Fmt.{decimal_nonempty}
use Rattle.std.proofs.Math.Dec.{eqb-suc-zero}
use Rattle.std.proofs.lemmas.List.Splits.{slice_split_none, slice_split_at}
use Rattle.hex.specs.Hex.{encode_lower, encode_with, lower_digits}
use Rattle.text_lines.specs.Lines.{words_of, behind_word}
use Rattle.text_lines.proofs.Lacking.{lacks, split, all_other, decimal_lacks, hex_lacks}
use Rattle.text_lines.proofs.BehindLemmas.{after_part}

-- a word: it has a byte, and no space
pub record IsWord (word : List ℕ) : Type 0 where
  pub some : (length word == 0) ≡ false
  pub whole : lacks 32 word ≡ true

kept : (w : List ℕ) (ws : List (List ℕ)) → (length w == 0) ≡ false → filter (λ x. not (length x == 0)) (w ∷ ws) ≡ w ∷ filter (λ x. not (length x == 0)) ws
kept w ws some = rw some refl

one_word : (w : List ℕ) → IsWord w → words_of w ≡ w ∷ []
one_word w is = ap (filter (λ x. not (length x == 0))) (slice_split_none (λ b. eqb b 32) w (all_other 32 w is.whole)) ∙ kept w [] is.some

-- a word and one space stand before what the rest has
pub word_and_rest : (w rest : List ℕ) → IsWord w → words_of (w ++ 32 ∷ rest) ≡ w ∷ words_of rest
word_and_rest w rest is =
    ap (filter (λ x. not (length x == 0))) (slice_split_at (λ b. eqb b 32) w 32 rest (all_other 32 w is.whole) refl)
    ∙ kept w (slice_split (λ b. eqb b 32) rest) is.some

-- words with one space between them are the words again
pub words_again : (ws : List (List ℕ)) → AllByRecursion IsWord ws → words_of (join_with_byte 32 ws) ≡ ws
words_again [] are = refl
words_again (w ∷ []) are = one_word w are.0
words_again (w ∷ v ∷ ws) are = word_and_rest w (join_with_byte 32 (v ∷ ws)) are.0 ∙ ap (λ (r : List (List ℕ)). w ∷ r) (words_again (v ∷ ws) are.1)

-- what stands behind a word and one space is the rest
pub behind_again : (w rest : List ℕ) → IsWord w → behind_word (w ++ 32 ∷ rest) ≡ rest
behind_again [] rest is = let none = is.some in absurd cc
behind_again (b ∷ bs) rest is = rw (split 32 b bs is.whole).head (after_part (b ∷ bs) rest (all_other 32 (b ∷ bs) is.whole))

-- a number in decimal is a word
pub decimal_is_word : (n : ℕ) → n < 2 ^ 64 → IsWord (decimal n)
decimal_is_word n small = record {
  some = ne_eqb (length (decimal n)) 0 (λ e. omega (arith, decimal_nonempty n small, e));
  whole = decimal_lacks 32 n small (λ r. omega (arith, r));
}

-- bytes in hex are a word, where there are any
pub hex_is_word : (b : ℕ) (bs : List ℕ) → IsWord (encode_lower (b ∷ bs))
unfolding encode_with
hex_is_word b bs = record { some = eqb-suc-zero (suc (length (encode_lower bs))); whole = hex_lacks 32 lower_digits (b ∷ bs) refl refl }

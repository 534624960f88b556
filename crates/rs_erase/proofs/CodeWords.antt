-- A word is a code word exactly where its values at the 48 roots are 0.
use Rattle.std.proofs.Common.{List, ap, arith, length, reverse, subst, sym, ℕ, ◌<◌, ◌∙◌, ◌≡◌, ◌≤◌}
use Rattle.std.proofs.lemmas.List.{length-reverse, reverse-reverse}
use Rattle.gf_field.proofs.Times.{times_zero, zero_times}
use Rattle.gf_field.specs.Field.{power, times}
use Rattle.rs_erase.specs.Code.{AreElements, IsCodeWord, generator}
use Rattle.rs_erase.specs.Polynomial.{scale, value}
use Rattle.rs_erase.proofs.Division.{factor_from_roots, generator_root}
use Rattle.rs_erase.proofs.Elements.{reverse_elements}
use Rattle.rs_erase.proofs.PolynomialLaws.{length-scale, mul_elements, scale_elements, value_mul}
use Rattle.rs_erase.proofs.WordValues.{value-reverse, word_value_scale}

-- the elements of a code word
pub code_word_elements : (w : List ℕ) → IsCodeWord w → AreElements w
code_word_elements w h =
    let r : AreElements (reverse w) = subst AreElements (sym h.product) (mul_elements (generator 48) h.factor) in
    subst AreElements (reverse-reverse w) (reverse_elements (reverse w) r)

-- its values at the roots
pub code_word_values : (w : List ℕ) → IsCodeWord w → (j : ℕ) → 0 < j → j ≤ 48 → value (power j) (reverse w) ≡ 0
code_word_values w h j pos le =
    ap (value (power j)) h.product ∙ value_mul (power j) (generator 48) h.factor
    ∙ ap (λ (v : ℕ). times v (value (power j) h.factor)) (generator_root 48 j pos le) ∙ zero_times (value (power j) h.factor)

-- the other way round, by dividing out one root after another
pub code_word_from : (w : List ℕ) → length w ≡ 255 → AreElements w → ((j : ℕ) → 0 < j → j ≤ 48 → value (power j) (reverse w) ≡ 0) → IsCodeWord w
code_word_from w len elements roots =
    let lr = length-reverse w in
    let f = factor_from_roots 48 (reverse w) (omega arith) (reverse_elements w elements) (omega arith) roots in
    record {
      long = len;
      factor = f.0;
      elements = f.1.elements;
      degree = let l = f.1.long in omega arith;
      product = sym f.1.whole;
    }

-- a multiple of a code word is one
pub code_word_scaled : (a : ℕ) (w : List ℕ) → IsCodeWord w → IsCodeWord (scale a w)
code_word_scaled a w h =
    let elements = scale_elements a w in
    code_word_from (scale a w) (length-scale a w ∙ h.long) elements (λ j pos le.
    value-reverse (power j) (scale a w) elements ∙ word_value_scale (power j) a w
    ∙ ap (times a) (sym (value-reverse (power j) w (code_word_elements w h)) ∙ code_word_values w h j pos le) ∙ times_zero a)

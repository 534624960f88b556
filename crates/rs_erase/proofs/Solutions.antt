-- A solution of the equations makes a code word, and a code word that agrees makes a solution.
use Rattle.std.proofs.Common.{[], All, List, ap, arith, bit_xor, false, get_or, length, reverse, subst, suc, sym, zero, ℕ, ◌+◌, ◌-◌, ◌<◌, ◌↔◌, ◌∙◌, ◌∷◌, ◌≡◌, ◌≤◌}
use Rattle.std.proofs.lemmas.Grind.{get_or_default_zero}
use Rattle.std.specs.Bool.{IsTrue}
use Rattle.std.specs.Int.Bits.{xor_self}
use Rattle.gf_field.proofs.Polynomial.{same_from_xor}
use Rattle.gf_field.specs.Field.{power}
use Rattle.rs_erase.specs.Code.{AgreesOutside, AreElements, AreSyndromes, HasCodeWord, IsCodeWord, IsOnlyCodeWord}
use Rattle.rs_erase.specs.Equations.{ValuesSolve, SumsFrom, locators_of, power_sum, word_value, word_with}
use Rattle.rs_erase.proofs.ErasedPlaces.{RiseFrom}
use Rattle.rs_erase.specs.Polynomial.{value}
use Rattle.rs_erase.proofs.CodeWords.{code_word_elements, code_word_from, code_word_values}
use Rattle.rs_erase.proofs.Elements.{elements_each, elements_of, reverse_elements}
use Rattle.rs_erase.proofs.ErasedPlaces.{are_locators, differences, differences_elements, length-differences, length-locators_of, length-word_with, word_value_word_with, word_with_agrees, word_with_differences, word_with_elements}
use Rattle.rs_erase.proofs.OnePlaceLess.{one_solution}
use Rattle.rs_erase.proofs.PolynomialLaws.{value_elements-lt}
use Rattle.rs_erase.proofs.WordValues.{value-reverse}

pub sums_at : (j : ℕ) (xs vs s : List ℕ) → SumsFrom j xs vs s → (k : ℕ) → k < length s → get_or s k 0 ≡ power_sum (j + k) xs vs
sums_at j xs vs [] h k lt = absurd (omega arith)
sums_at j xs vs (a ∷ s) h zero lt = h.0 ∙ ap (λ (n : ℕ). power_sum n xs vs) (let e : j ≡ j + 0 = omega arith in e)
sums_at j xs vs (a ∷ s) h (suc k) lt =
    sums_at (suc j) xs vs s h.1 k (omega arith) ∙ ap (λ (n : ℕ). power_sum n xs vs) (let e : suc j + k ≡ j + suc k = omega arith in e)

pub sums_from : (j : ℕ) (xs vs s : List ℕ) → ((k : ℕ) → k < length s → get_or s k 0 ≡ power_sum (j + k) xs vs) → SumsFrom j xs vs s
sums_from j xs vs [] h = tt
sums_from j xs vs (a ∷ s) h = (
  h 0 (omega arith) ∙ ap (λ (n : ℕ). power_sum n xs vs) (let e : j + 0 ≡ j = omega arith in e),
  sums_from (suc j) xs vs s (λ k lt. h (suc k) (omega arith) ∙ ap (λ (n : ℕ). power_sum n xs vs) (let e : j + suc k ≡ suc j + k = omega arith in e)),
)

-- a solution makes a code word
pub solution_is_code_word : (es vs w s : List ℕ) → RiseFrom 0 es → length w ≡ 255 → AreElements w → AreSyndromes w s
    → ValuesSolve (locators_of es) vs s → IsCodeWord (word_with es vs w)
solution_is_code_word es vs w s rise lw hw sy h =
    let lv : length vs ≡ length es = h.one_each ∙ length-locators_of es in
    let elements = word_with_elements es vs w 0 rise h.elements lw hw in
    let ls = sy.long in
    code_word_from (word_with es vs w) (length-word_with es vs w ∙ lw) elements
    (λ j pos le.
    let k = j - 1 in
    let jk : 1 + k ≡ j = omega arith in
    let kj : k + 1 ≡ j = omega arith in
    let m = power_sum j (locators_of es) vs in
    let now : value (power j) (reverse w) ≡ m =
    ap (λ (n : ℕ). value (power n) (reverse w)) (sym kj) ∙ sym (sy.each k (omega arith)) ∙ sums_at 1 (locators_of es) vs s h.sums k (omega arith)
    ∙ ap (λ (n : ℕ). power_sum n (locators_of es) vs) jk in
    value-reverse (power j) (word_with es vs w) elements ∙ word_value_word_with j es vs w 0 rise lv lw
    ∙ ap (λ (n : ℕ). bit_xor n m) (sym (value-reverse (power j) w hw) ∙ now) ∙ xor_self m)

-- a code word that agrees outside the places makes a solution
pub code_word_is_solution : (es w c s : List ℕ) → RiseFrom 0 es → length w ≡ 255 → AreElements w → AreSyndromes w s
    → IsCodeWord c → AgreesOutside es w c → ValuesSolve (locators_of es) (differences es w c) s
code_word_is_solution es w c s rise lw hw sy code agrees =
    let ds = differences es w c in
    let hc = code_word_elements c code in
    let lv : length ds ≡ length es = length-differences es w c in
    let ls = sy.long in
    record {
      one_each = lv ∙ sym (length-locators_of es);
      elements = differences_elements es w c 0 rise lw code.long hw hc;
      sums = sums_from 1 (locators_of es) ds s
          (λ k lt.
          let j = 1 + k in
          let kj : k + 1 ≡ j = omega arith in
          let m = power_sum j (locators_of es) ds in
          let zero' : bit_xor (word_value (power j) w) m ≡ 0 =
          sym (word_value_word_with j es ds w 0 rise lv lw) ∙ ap (word_value (power j)) (word_with_differences es w c 0 rise lw agrees)
          ∙ sym (value-reverse (power j) c hc) ∙ code_word_values c code j (omega arith) (omega arith) in
          sy.each k (omega arith) ∙ ap (λ (n : ℕ). value (power n) (reverse w)) kj ∙ value-reverse (power j) w hw ∙ same_from_xor (word_value (power j) w) m zero');
    }

pub value_of_elements : (w s : List ℕ) → AreElements w → length s ≡ 48 → ((k : ℕ) → k < 48 → get_or s k 0 ≡ value (power (k + 1)) (reverse w)) → AreElements s
value_of_elements w s hw ls h =
    let P : ℕ → Type 0 = λ n. n < 256 in
    elements_each s (λ k lt. subst P (sym (h k (omega arith))) (value_elements-lt (power (k + 1)) (reverse w) (reverse_elements w hw)))

-- the second word is the one code word that agrees with the first outside these places
pub record IsTheCodeWord (places : List ℕ) (old new : List ℕ) : Type 0 where
  pub code_word : IsCodeWord new
  pub agrees : AgreesOutside places old new
  pub only : IsOnlyCodeWord places old new

-- the places' values that were found
pub solved : (es w s xs us vs new : List ℕ) → RiseFrom 0 es → length w ≡ 255 → ((i : ℕ) → get_or w i 0 < 256) → length es ≤ 48
    → AreSyndromes w s → xs ≡ locators_of es → vs ≡ us → ValuesSolve xs us s → new ≡ word_with es vs w → IsTheCodeWord es w new
solved es w s xs us vs new rise lw hw le sy ex ev h en =
    let bw = elements_of w hw in
    let h' : ValuesSolve (locators_of es) us s = subst (λ (zs : List ℕ). ValuesSolve zs us s) ex h in
    let en' : word_with es us w ≡ new = ap (λ (zs : List ℕ). word_with es zs w) (sym ev) ∙ sym en in
    record {
      code_word = subst IsCodeWord en' (solution_is_code_word es us w s rise lw bw sy h');
      agrees = subst (AgreesOutside es w) en' (word_with_agrees es us w);
      only = λ other code agrees.
          let ds = differences es w other in
          let same : ds ≡ us =
          one_solution (locators_of es) ds us s (are_locators 0 es rise) (let l = sy.long in omega (arith, length-locators_of es))
          (code_word_is_solution es w other s rise lw bw sy code agrees) h' in
          sym (word_with_differences es w other 0 rise lw agrees) ∙ ap (λ (zs : List ℕ). word_with es zs w) same ∙ en';
    }

-- no values were found
pub unsolved : (es w s xs : List ℕ) → RiseFrom 0 es → length w ≡ 255 → ((i : ℕ) → get_or w i 0 < 256)
    → AreSyndromes w s → xs ≡ locators_of es → ((vs : List ℕ) → ValuesSolve xs vs s → ⊥) → HasCodeWord es w → ⊥
unsolved es w s xs rise lw hw sy ex none h =
    none (differences es w h.word)
    (subst (λ (zs : List ℕ). ValuesSolve zs (differences es w h.word) s) (sym ex)
    (code_word_is_solution es w h.word s rise lw (elements_of w hw) sy h.code_word h.agrees))

pub not_found : IsTrue false → ⊥
not_found e = cc

-- a code word has no syndrome but 0
pub code_word_by_syndromes : (w s : List ℕ) → length w ≡ 255 → ((i : ℕ) → get_or w i 0 < 256) → length s ≡ 48
    → ((k : ℕ) → k < 48 → get_or s k 0 ≡ value (power (k + 1)) (reverse w)) → IsCodeWord w ↔ All (λ a. a ≡ 0) s
code_word_by_syndromes w s lw hw ls h = (
  λ code k d lt. get_or_default_zero s k d lt ∙ h k (omega arith) ∙ code_word_values w code (k + 1) (omega arith) (omega arith),
  λ zeros. code_word_from w lw (elements_of w hw)
      (λ j pos le. let k = j - 1 in let e : k + 1 ≡ j = omega arith in
      ap (λ (n : ℕ). value (power n) (reverse w)) (sym e) ∙ sym (h k (omega arith)) ∙ zeros k 0 (omega arith)),
)

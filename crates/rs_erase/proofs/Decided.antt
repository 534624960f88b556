-- Whether values solve the equations can be told, and so whether a code word agrees with a word.
use Rattle.std.proofs.Common.{[], All, List, ap₂, arith, bit_xor, get_or, inl, inr, length, map, refl, reverse, suc, ℕ, ◌+◌, ◌<◌, ◌≤◌, ◌∷◌, ◌≡◌, ◌⊎◌}
use Rattle.std.proofs.lemmas.Bool.{cases_lt}
use Rattle.std.proofs.lemmas.List.{get_or_past}
use Rattle.std.proofs.lemmas.List.FromFn.{get_or-map-range_with_len, length-map-range_with_len}
use Rattle.std.proofs.lemmas.Nat.{xor_of_8}
use Rattle.std.specs.List.{range_with_len}
use Rattle.gf_field.proofs.Inverse.{inverse_is, product_of_squares}
use Rattle.gf_field.proofs.Polynomial.{same_from_xor}
use Rattle.gf_field.proofs.Times.{times-lt}
use Rattle.gf_field.specs.Field.{power, times}
use Rattle.rs_erase.specs.Code.{AreElements, AreSyndromes}
use Rattle.rs_erase.specs.Equations.{AreLocators, IsNoneOf, ValuesSolve, locators_of, power_sum, remaining_syndromes, remaining_values, word_with}
use Rattle.rs_erase.specs.FromZero.{syndromes_without}
use Rattle.rs_erase.specs.Laws.{CodeWordOrNone}
use Rattle.rs_erase.specs.Polynomial.{value}
use Rattle.rs_erase.proofs.Elements.{cons_elements, elements_head, elements_tail}
use Rattle.rs_erase.proofs.EquationLoops.{all_found, divided, none_complete, none_found, rest_complete, rest_required, zero_cons}
use Rattle.rs_erase.proofs.ErasedPlaces.{are_locators, length-locators_of, places_rise}
use Rattle.rs_erase.proofs.Solutions.{solved, unsolved, value_of_elements}

-- all are 0, or not all
zeros_or_not : (s : List ℕ) → All (λ a. a ≡ 0) s ⊎ (All (λ a. a ≡ 0) s → ⊥)
zeros_or_not [] = inl (λ k d lt. absurd (omega arith))
zeros_or_not (a ∷ s) =
    elim (cases_lt 0 a) [
      | inl some ↦ inr (λ all. let here : a ≡ 0 = all 0 0 (omega arith) in absurd (omega arith))
      | inr none ↦ elim (zeros_or_not s) [
        | inl zeros ↦ inl (zero_cons a s (omega arith) zeros)
        | inr other ↦ inr (λ all. other (λ k d lt. all (suc k) d (omega arith)))
      ]
    ]

-- the inverse of an element other than 0
inverse : ℕ → ℕ
inverse a = product_of_squares 7 a

inverse_times : (a : ℕ) → 0 < a → a < 256 → times a (inverse a) ≡ 1
unfolding inverse
inverse_times a some small = inverse_is a some small

-- each value divided by the sum of its locator and y
abbrev quotients : ℕ → List ℕ → List ℕ → List ℕ
quotients y [] us = []
quotients y (x ∷ xs) [] = []
quotients y (x ∷ xs) (u ∷ us) = times u (inverse (bit_xor x y)) ∷ quotients y xs us

length-quotients : (y : ℕ) (xs us : List ℕ) → length us ≡ length xs → length (quotients y xs us) ≡ length xs
length-quotients y [] us e = refl
length-quotients y (x ∷ xs) [] e = absurd (omega arith)
length-quotients y (x ∷ xs) (u ∷ us) e = let h = length-quotients y xs us (omega arith) in omega arith

quotients_elements : (y : ℕ) (xs us : List ℕ) → AreElements (quotients y xs us)
quotients_elements y [] us = λ k d lt. absurd (omega arith)
quotients_elements y (x ∷ xs) [] = λ k d lt. absurd (omega arith)
quotients_elements y (x ∷ xs) (u ∷ us) =
    cons_elements (times u (inverse (bit_xor x y))) (quotients y xs us) (times-lt u (inverse (bit_xor x y))) (quotients_elements y xs us)

remaining_quotients : (y : ℕ) (xs us : List ℕ) → y < 256 → AreLocators xs → IsNoneOf y xs → length us ≡ length xs → AreElements us
    → remaining_values y xs (quotients y xs us) ≡ us
remaining_quotients y [] [] ly lo away lu bu = refl
remaining_quotients y [] (u ∷ us) ly lo away lu bu = absurd (omega arith)
remaining_quotients y (x ∷ xs) [] ly lo away lu bu = absurd (omega arith)
remaining_quotients y (x ∷ xs) (u ∷ us) ly lo away lu bu =
    let d = bit_xor x y in
    let nz : d ≡ 0 → ⊥ = λ z. away.0 (same_from_xor x y z) in
    let one : times d (inverse d) ≡ 1 = inverse_times d (omega (arith, nz)) (xor_of_8 x y lo.1 ly) in
    ap₂ (λ (w : ℕ) (ws : List ℕ). w ∷ ws)
    (divided u d (inverse d) (times u (inverse d)) (elements_head u us bu) one refl)
    (remaining_quotients y xs us ly lo.3 away.1 (omega arith) (elements_tail u us bu))

-- the value at the place of the first locator
first_found : (x a : ℕ) (xs s us : List ℕ) → AreLocators (x ∷ xs) → AreElements (a ∷ s) → length (x ∷ xs) ≤ length (a ∷ s)
    → ValuesSolve xs us (remaining_syndromes x (a ∷ s)) → (vs : List ℕ) × ValuesSolve (x ∷ xs) vs (a ∷ s)
first_found x a xs s us lo bs le h =
    let vs : List ℕ = quotients x xs us in
    let sum = bit_xor a (power_sum 1 xs vs) in
    let v = times sum (inverse x) in (
      v ∷ vs,
      all_found (x ∷ xs) (a ∷ s) (remaining_syndromes x (a ∷ s)) xs us vs x a (inverse x) sum v refl lo bs le refl h
          (remaining_quotients x xs us lo.1 lo.3 lo.2 h.one_each h.elements) (quotients_elements x xs us) (length-quotients x xs us h.one_each)
          refl (inverse_times x lo.0 lo.1) refl refl,
    )

-- values that solve the equations, or that there are none
pub solution_or_none : (xs s : List ℕ) → AreLocators xs → AreElements s → length xs ≤ length s
    → ((vs : List ℕ) × ValuesSolve xs vs s) ⊎ ((vs : List ℕ) → ValuesSolve xs vs s → ⊥)
solution_or_none [] s lo bs le =
    elim (zeros_or_not s) [
      | inl zeros ↦ inl ([], none_found [] [] s refl refl zeros)
      | inr other ↦ inr (λ vs h. other (none_complete [] vs s refl h))
    ]
solution_or_none (x ∷ xs) [] lo bs le = absurd (omega arith)
solution_or_none (x ∷ xs) (a ∷ s) lo bs le =
    let left : List ℕ = remaining_syndromes x (a ∷ s) in
    let required = rest_required (x ∷ xs) (a ∷ s) left xs x 0 refl lo bs le refl in
    elim (solution_or_none xs left required.0 required.1 required.2) [
      | inl found ↦ inl (first_found x a xs s found.0 lo bs le found.1)
      | inr none ↦ inr (λ vs h. let rest = rest_complete (x ∷ xs) vs (a ∷ s) left xs x refl refl h in none rest.0 rest.1)
    ]

-- values that solve the equations, where no syndrome is left without all places
pub solution_where_none_left : (xs s : List ℕ) → AreLocators xs → AreElements s → length xs ≤ length s
    → All (λ a. a ≡ 0) (syndromes_without xs s) → (vs : List ℕ) × ValuesSolve xs vs s
solution_where_none_left [] s lo bs le zeros = ([], none_found [] [] s refl refl zeros)
solution_where_none_left (x ∷ xs) [] lo bs le zeros = absurd (omega arith)
solution_where_none_left (x ∷ xs) (a ∷ s) lo bs le zeros =
    let left : List ℕ = remaining_syndromes x (a ∷ s) in
    let required = rest_required (x ∷ xs) (a ∷ s) left xs x 0 refl lo bs le refl in
    let found = solution_where_none_left xs left required.0 required.1 required.2 zeros in
    first_found x a xs s found.0 lo bs le found.1

-- the values of a word at the 48 roots
syndromes_of : List ℕ → List ℕ
syndromes_of word = map (λ k. value (power (k + 1)) (reverse word)) (range_with_len 0 48)

are_syndromes : (word : List ℕ) → AreSyndromes word (syndromes_of word)
unfolding syndromes_of
are_syndromes word =
    let f : ℕ → ℕ = λ k. value (power (k + 1)) (reverse word) in
    record {
      long = length-map-range_with_len f 0 48;
      each = λ j lt. get_or-map-range_with_len f 0 48 j j 0 lt (omega arith);
    }

-- each place of such a list has an element, past the end too
each_element : (word : List ℕ) → AreElements word → (i : ℕ) → get_or word i 0 < 256
each_element word elements i =
    elim (cases_lt i (length word)) [
      | inl inside ↦ elements i 0 inside
      | inr past ↦ omega (arith, get_or_past word i 0 past)
    ]

pub code_word_or_none : CodeWordOrNone
code_word_or_none places word are few long elements =
    let s : List ℕ = syndromes_of word in
    let sy : AreSyndromes word s = are_syndromes word in
    let rise = places_rise places are in
    let each = each_element word elements in
    let enough : length (locators_of places) ≤ length s = omega (arith, few, length-locators_of places, sy.long) in
    elim (solution_or_none (locators_of places) s (are_locators 0 places rise) (value_of_elements word s elements sy.long sy.each) enough) [
      | inl found ↦
          let whole = solved places word s (locators_of places) found.0 found.0 (word_with places found.0 word) rise long each few sy refl refl found.1 refl in
          inl (record { word = word_with places found.0 word; code_word = whole.code_word; agrees = whole.agrees })
      | inr none ↦ inr (unsolved places word s (locators_of places) rise long each sy refl none)
    ]

-- There is one code word, and one parity.
use Rattle.std.proofs.Common.{[], List, ap, arith, get_or, inl, inr, length, length-append, refl, replicate, subst, suc, sym, zero, ℕ, ◌++◌, ◌+◌, ◌-◌, ◌<◌, ◌∙◌, ◌∷◌, ◌≡◌, ◌≤◌}
use Rattle.std.proofs.Math.ListN.{get_or-append}
use Rattle.std.proofs.lemmas.Bool.{cases_lt}
use Rattle.std.proofs.lemmas.List.{append_cancel_left, get_or-replicate, get_or_past, length-replicate}
use Rattle.std.specs.List.{Contains}
use Rattle.rs_erase.specs.Code.{ArePlaces, AgreesOutside, AreSyndromes, IsCodeWord, word_of}
use Rattle.rs_erase.specs.Equations.{locators_of, word_with}
use Rattle.rs_erase.proofs.ErasedPlaces.{RiseFrom}
use Rattle.rs_erase.proofs.CodeWords.{code_word_elements, code_word_values}
use Rattle.rs_erase.proofs.ErasedPlaces.{RiseFrom, places_rise, are_locators, differences, length-locators_of, word_with_differences}
use Rattle.rs_erase.proofs.OnePlaceLess.{one_solution}
use Rattle.rs_erase.proofs.Solutions.{code_word_is_solution}

abbrev pub places_from : ℕ → ℕ → List ℕ
places_from zero e = []
places_from (suc n) e = e ∷ places_from n (suc e)

pub places_from_rise : (n e f : ℕ) → f ≤ e → n + e ≤ 255 → RiseFrom f (places_from n e)
places_from_rise zero e f le lt = tt
places_from_rise (suc n) e f le lt = (le, omega arith, places_from_rise n (suc e) (suc e) (omega arith) (omega arith))

pub length-places_from : (n e : ℕ) → length (places_from n e) ≡ n
length-places_from zero e = refl
length-places_from (suc n) e = let h = length-places_from n (suc e) in omega arith

pub place_at : (n e k : ℕ) → k < n → get_or (places_from n e) k (e + k) ≡ e + k
place_at zero e k lt = absurd (omega arith)
place_at (suc n) e zero lt = let h : e ≡ e + 0 = omega arith in h
place_at (suc n) e (suc k) lt =
    ap (λ (d : ℕ). get_or (places_from n (suc e)) k d) (let h : e + suc k ≡ suc e + k = omega arith in h)
    ∙ place_at n (suc e) k (omega arith) ∙ (let h : suc e + k ≡ e + suc k = omega arith in h)

pub contains_place : (n e p : ℕ) → e ≤ p → p < e + n → Contains (places_from n e) p
contains_place n e p le lt =
    let k = p - e in let ep : e + k ≡ p = omega arith in
    (k, (let h = length-places_from n e in omega arith), subst (λ (q : ℕ). get_or (places_from n e) k q ≡ q) ep (place_at n e k (omega arith)))

-- two code words that agree outside 48 places are one
pub one_code_word : (es c d : List ℕ) → RiseFrom 0 es → length es ≤ 48 → IsCodeWord c → IsCodeWord d → AgreesOutside es c d → c ≡ d
one_code_word es c d rise le hc hd agrees =
    let s : List ℕ = replicate 48 0 in
    let sy : AreSyndromes c s = record {
      long = length-replicate {A = ℕ} 48 0;
      each = λ k lt. get_or-replicate {A = ℕ} 48 k 0 0 lt ∙ sym (code_word_values c hc (k + 1) (omega arith) (omega arith));
    } in
    let bc = code_word_elements c hc in
    let self : AgreesOutside es c c = record { long = refl; same = λ k m. refl } in
    let same : differences es c c ≡ differences es c d =
    one_solution (locators_of es) (differences es c c) (differences es c d) s (are_locators 0 es rise)
    (let ls = length-replicate {A = ℕ} 48 0 in omega (arith, length-locators_of es))
    (code_word_is_solution es c c s rise hc.long bc sy hc self) (code_word_is_solution es c d s rise hc.long bc sy hd agrees) in
    sym (word_with_differences es c c 0 rise hc.long self) ∙ ap (λ (ds : List ℕ). word_with es ds c) same ∙ word_with_differences es c d 0 rise hc.long agrees

pub one_parity : (chunk p q : List ℕ) → length chunk ≤ 207 → IsCodeWord (word_of chunk p) → IsCodeWord (word_of chunk q) → q ≡ p
one_parity chunk p q le hp hq =
    let m = chunk ++ replicate (207 - length chunk) 0 in
    let lm : length m ≡ 207 = omega (arith, length-append chunk (replicate (207 - length chunk) 0), length-replicate {A = ℕ} (207 - length chunk) 0) in
    let lp = hp.long in let lq = hq.long in
    let agrees : AgreesOutside (places_from 48 207) (m ++ q) (m ++ p) = record {
      long = lp ∙ sym lq;
      same = λ k out. elim (cases_lt k 207) [
        | inl early ↦ get_or-append m p 0 k (omega arith) ∙ sym (get_or-append m q 0 k (omega arith))
        | inr late ↦ elim (cases_lt k 255) [
          | inl inside ↦ absurd (out (contains_place 48 207 k (omega arith) (omega arith)))
          | inr past ↦ get_or_past (m ++ p) k 0 (omega arith) ∙ sym (get_or_past (m ++ q) k 0 (omega arith))
        ]
      ];
    } in
    let same : m ++ q ≡ m ++ p =
    one_code_word (places_from 48 207) (m ++ q) (m ++ p) (places_from_rise 48 207 0 (omega arith) (omega arith)) (let l = length-places_from 48 207 in omega arith) hq hp agrees in
    append_cancel_left m q p same

pub one_code_word_by_places : (places first second : List ℕ) → ArePlaces places → length places ≤ 48
    → IsCodeWord first → IsCodeWord second → AgreesOutside places first second → second ≡ first
one_code_word_by_places places first second are le hf hs agrees =
    sym (one_code_word places first second (places_rise places are) le hf hs agrees)

-- Words with the values at spaced places.
use Rattle.std.proofs.Common.{All, ◌≡◌, ℕ, zero, suc, [], ◌∷◌, ◌+◌, ◌-◌, ◌*◌, ◌/◌, ◌%◌, ◌<◌, ◌≤◌, List, length, get_or, take, refl, sym, ap, ◌∙◌, subst, arith}
use Rattle.std.proofs.Math.Nat.{div-add-mod}
use Rattle.std.proofs.lemmas.Grind.{get_or_default_zero}
use Rattle.std.proofs.lemmas.List.{get_or-take, length-take-le, take-take}
use Rattle.std.proofs.lemmas.Nat.{mod_below, xor_of_8}
use Rattle.gf_field.specs.Field.{power, times}
use Rattle.gf_field.proofs.Times.{times-lt}
use Rattle.rs_erase.specs.Code.{AgreesOutside, AreElements, ArePlaces, AreSyndromes, HasCodeWord, IsCodeWord}
use Rattle.rs_erase.specs.Equations.{locators_of, word_value, word_with}
use Rattle.rs_erase.specs.FromZero.{syndromes_without, weighted}
use Rattle.rs_erase.specs.Prepared.{scale_of, sums_product, without}
use Rattle.rs_erase.specs.Spaced.{AreFactors, AreInMessage, AreLanes, HasMessage, IsSpacing, spaced_sum}
use Rattle.rs_erase.proofs.Decided.{solution_where_none_left}
use Rattle.rs_erase.proofs.ErasedPlaces.{are_locators, differences, length-differences, length-locators_of, places_rise, word_with_agrees, word_with_differences}
use Rattle.rs_erase.proofs.FromZero.{locator_pos, none_left, weighted_solves}
use Rattle.rs_erase.proofs.OtherPlaces.{alone, length_left, scale_positive}
use Rattle.rs_erase.proofs.RootSums.{all_summed}
use Rattle.rs_erase.proofs.Solutions.{code_word_is_solution, solution_is_code_word, value_of_elements}
use Rattle.rs_erase.proofs.SpacedSums.{lane_sum, left_sum, length_to, same_message, summed_to, syndromes_to, unchanged_back, weighted_sum}

located_at : (es : List ℕ) (j : ℕ) → j < length es → get_or (locators_of es) j 0 ≡ power (254 - get_or es j 0)
located_at [] j lt = absurd (omega arith)
located_at (e ∷ es) zero lt = refl
located_at (e ∷ es) (suc j) lt = located_at es j (omega arith)

spaced_sum-lt : (table s : List ℕ) (r i n : ℕ) → spaced_sum table s r i n < 256
unfolding spaced_sum
spaced_sum-lt table s r i zero = omega arith
spaced_sum-lt table s r i (suc n) =
    xor_of_8 (spaced_sum table s r i n) (times (get_or s n 0) (get_or table (16 * (r + n) + i) 0)) (spaced_sum-lt table s r i n)
    (times-lt (get_or s n 0) (get_or table (16 * (r + n) + i) 0))

-- the first of some places are places too
pub first_places : (m n : ℕ) (places : List ℕ) → m ≤ n → length (take n places) ≡ n → ArePlaces (take n places) → ArePlaces (take m places)
first_places m n places le ln h =
    let lm : length (take m places) ≡ m =
    ap (λ (zs : List ℕ). length zs) (sym (take-take m n places le)) ∙ length-take-le m (take n places) (omega arith) in
    let at : (k : ℕ) → k < m → get_or (take m places) k 0 ≡ get_or (take n places) k 0 =
    λ k lt. get_or-take m places k 0 lt ∙ sym (get_or-take n places k 0 (omega arith)) in
    record {
      below = λ k lt. subst (λ (e : ℕ). e < 255) (sym (at k (omega arith))) (h.below k (omega arith));
      rising = λ k lt. subst (λ (e : ℕ). e < get_or (take m places) (k + 1) 0) (sym (at k (omega arith)))
          (subst (λ (e : ℕ). get_or (take n places) k 0 < e) (sym (at (k + 1) (omega arith))) (h.rising k (omega arith)));
    }

-- each symbol of what remains of a word, times its factor
abbrev pub AreMultiplied : List ℕ → List ℕ → List ℕ → Type 0
AreMultiplied factors r s = (p : ℕ) → p < 48 → get_or s p 0 ≡ times (get_or factors p 0) (get_or r p 0)

multiplied_by : (xs factors r s : List ℕ) → AreFactors xs factors → AreMultiplied factors r s
    → (q : ℕ) → q < 48 → get_or s q 0 ≡ times (sums_product (power (47 - q)) xs) (get_or r q 0)
multiplied_by xs factors r s hf hs q lt = hs q lt ∙ ap (λ (z : ℕ). times z (get_or r q 0)) (hf q lt)

-- what the values of the multiplied symbols are
left_is : (xs r s factors : List ℕ) (i : ℕ) → length xs ≤ 48 → i < 48 - length xs → AreFactors xs factors → AreMultiplied factors r s → length r ≡ 48 → length s ≡ 48
    → word_value (power (i + 1)) s ≡ get_or (syndromes_without xs (syndromes_to r 48)) i 0
left_is xs r s factors i le lt hf hs lr ls =
    sym (all_summed s (syndromes_to s 48) ls (summed_to s 48 ls (omega arith)) i (omega arith))
    ∙ left_sum xs r s i 48 le lt (multiplied_by xs factors r s hf hs) lr ls (omega arith)

-- If a code word agrees, nothing is left.
pub nothing_left : (es w r s factors : List ℕ) (i : ℕ) → ArePlaces es → length es ≤ 48 → length w ≡ 255 → AreElements w → AreSyndromes w (syndromes_to r 48)
    → AreFactors (locators_of es) factors → AreMultiplied factors r s → length r ≡ 48 → length s ≡ 48 → HasCodeWord es w → i < 48 - length es
    → word_value (power (i + 1)) s ≡ 0
nothing_left es w r s factors i are few lw hw sy hf hs lr ls has lt =
    let xs = locators_of es in
    let lx = length-locators_of es in
    let t = syndromes_to r 48 in
    let l = length_left xs t in
    let lt' = length_to r 48 lr (omega arith) in
    let solves = code_word_is_solution es w has.word t (places_rise es are) lw hw sy has.code_word has.agrees in
    let none = none_left xs (weighted xs (differences es w has.word)) t (weighted_solves xs (differences es w has.word) t solves) in
    left_is xs r s factors i (omega arith) (omega arith) hf hs lr ls ∙ none i 0 (omega arith)

-- And if nothing is left, one does.
pub code_word_found : (es w r s factors : List ℕ) → ArePlaces es → length es ≤ 48 → length w ≡ 255 → AreElements w → AreSyndromes w (syndromes_to r 48)
    → AreFactors (locators_of es) factors → AreMultiplied factors r s → length r ≡ 48 → length s ≡ 48
    → ((i : ℕ) → i < 48 - length es → word_value (power (i + 1)) s ≡ 0) → HasCodeWord es w
code_word_found es w r s factors are few lw hw sy hf hs lr ls zeros =
    let xs = locators_of es in
    let lx = length-locators_of es in
    let t = syndromes_to r 48 in
    let l = length_left xs t in
    let lt' = length_to r 48 lr (omega arith) in
    let rise = places_rise es are in
    let none : All (λ a. a ≡ 0) (syndromes_without xs t) =
    λ i d lt. get_or_default_zero (syndromes_without xs t) i d lt ∙ sym (left_is xs r s factors i (omega arith) (omega arith) hf hs lr ls) ∙ zeros i (omega arith) in
    let found = solution_where_none_left xs t (are_locators 0 es rise) (value_of_elements w t hw lt' sy.each) (omega arith) none in
    record {
      word = word_with es found.0 w;
      code_word = solution_is_code_word es found.0 w t rise lw hw sy found.1;
      agrees = word_with_agrees es found.0 w;
    }

-- A lane within a run is so many steps behind its start.
lane_parts : (lane : ℕ) → 16 * (lane / 16) + lane % 16 ≡ lane
lane_parts lane = let h = div-add-mod lane 16 in omega arith

-- If a code word agrees, its differences are added at the places of the message.
pub word_found : (es w r s factors weights starts lanes sums table new : List ℕ) (distance message used : ℕ)
    → length es ≤ 48 → ArePlaces es → AreInMessage es message → length w ≡ 255 → AreElements w → AreSyndromes w (syndromes_to r 48)
    → AreFactors (locators_of es) factors → AreMultiplied factors r s → length r ≡ 48
    → ((j : ℕ) → j < length es → times (get_or weights j 0) (scale_of (locators_of es) j) ≡ 1)
    → AreLanes starts used distance (take message es) lanes → IsSpacing distance table
    → ((run i : ℕ) → run < used → run < 13 → i < 16 → get_or starts run 0 < 207
    → get_or sums (16 * run + i) 0 ≡ spaced_sum table s (207 - get_or starts run 0) i 48)
    → ((vs : List ℕ) → length vs ≡ length (take message es)
    → ((j : ℕ) → j < length (take message es) → get_or vs j 0 ≡ times (get_or weights j 0) (get_or sums (get_or lanes j 0) 0))
    → new ≡ word_with (take message es) vs w)
    → (c : List ℕ) → IsCodeWord c → AgreesOutside es w c → new ≡ word_with (take message es) (take message (differences es w c)) w
word_found es w r s factors weights starts lanes sums table new distance message used few are inside lw hw sy hf hs lr weighs have spacing each made = λ c code agrees.
    let xs = locators_of es in
    let lx = length-locators_of es in
    let t = syndromes_to r 48 in
    let lt = length_to r 48 lr (omega arith) in
    let rise = places_rise es are in
    let lo = are_locators 0 es rise in
    let ds = differences es w c in
    let ld = length-differences es w c in
    let m = inside.few in
    let lp : length (take message es) ≡ message = length-take-le message es m in
    let lv : length (take message ds) ≡ message = length-take-le message ds (omega arith) in
    let solves = code_word_is_solution es w c t rise lw hw sy code agrees in
    let value : (j : ℕ) → j < length (take message es) → get_or (take message ds) j 0 ≡ times (get_or weights j 0) (get_or sums (get_or lanes j 0) 0) =
    λ j lj.
    let lane = get_or lanes j 0 in
    let h = have j lj in
    let jm : j < message = omega arith in
    let run = lane / 16 in
    let i = lane % 16 in
    let li : i < 16 = mod_below lane 16 (omega arith) in
    let place : get_or starts run 0 + distance * i ≡ get_or es j 0 = h.there ∙ get_or-take message es j 0 jm in
    let low = inside.before j jm in
    let small = h.small in
    let whole = lane_parts lane in
    let thirteen : run < 13 = omega arith in
    let far : get_or xs j 0 ≡ power (254 - (get_or starts run 0 + distance * i)) = located_at es j (omega arith) ∙ ap (λ (e : ℕ). power (254 - e)) (sym place) in
    let first = get_or (syndromes_without (without j xs) t) 0 0 in
    let is : get_or sums lane 0 ≡ spaced_sum table s (207 - get_or starts run 0) i 48 =
    ap (λ (n : ℕ). get_or sums n 0) (sym whole) ∙ each run i h.run thirteen li (omega arith) in
    let sum : get_or sums lane 0 ≡ first =
    is ∙ lane_sum xs r s table distance (get_or starts run 0) i j 48 (omega arith) (omega arith) far (omega arith) (multiplied_by xs factors r s hf hs) spacing li lr (omega arith) in
    get_or-take message ds j 0 jm
    ∙ weighted_sum (get_or ds j 0) (get_or weights j 0) (get_or sums lane 0) (scale_of xs j) first
    (solves.elements j 0 (omega arith)) (subst (λ (n : ℕ). n < 256) (sym is) (spaced_sum-lt table s (207 - get_or starts run 0) i 48))
    (scale_positive xs j lo (omega arith) (locator_pos xs lo j (omega arith)))
    (times-lt (get_or xs j 0) (sums_product (get_or xs j 0) (without j xs)))
    (weighs j (omega arith)) (alone xs ds t j solves (omega arith) (omega arith)) sum in
    made (take message ds) (lv ∙ sym lp) value

-- So its message is the word's,
pub message_found : (es w new : List ℕ) (message : ℕ) → ArePlaces es → AreInMessage es message → length w ≡ 255
    → ((c : List ℕ) → IsCodeWord c → AgreesOutside es w c → new ≡ word_with (take message es) (take message (differences es w c)) w) → HasMessage es w new
message_found es w new message are inside lw made = λ c code agrees q lq.
    let ds = differences es w c in
    ap (λ (us : List ℕ). get_or us q 0) (made c code agrees)
    ∙ same_message message es ds w q lq (length-differences es w c) inside.behind
    ∙ ap (λ (us : List ℕ). get_or us q 0) (word_with_differences es w c 0 (places_rise es are) lw agrees)

-- and the parity is as it was.
pub parity_kept : (es w new : List ℕ) (message : ℕ) → AreInMessage es message → HasCodeWord es w
    → ((c : List ℕ) → IsCodeWord c → AgreesOutside es w c → new ≡ word_with (take message es) (take message (differences es w c)) w)
    → (q : ℕ) → 207 ≤ q → get_or new q 0 ≡ get_or w q 0
parity_kept es w new message inside has made q le =
    let few = inside.few in
    let l = length-take-le message es few in
    ap (λ (us : List ℕ). get_or us q 0) (made has.word has.code_word has.agrees)
    ∙ unchanged_back (take message es) (take message (differences es w has.word)) w q le
    (λ j lj. subst (λ (e : ℕ). e < 207) (sym (get_or-take message es j 0 (omega arith))) (inside.before j (omega arith)))

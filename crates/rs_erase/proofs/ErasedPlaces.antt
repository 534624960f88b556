-- Words with values added at places.
use Rattle.std.proofs.Common.{[], List, ap, ap₂, arith, bit_xor, get_or, get_or-set_other, get_or-set_same, inl, inr, length, refl, slice_set, subst, suc, sym, zero, ℕ, ◌+◌, ◌-◌, ◌<◌, ◌∙◌, ◌∷◌, ◌≡◌, ◌≢◌, ◌≤◌}
use Rattle.std.proofs.Math.ListN.{length-set}
use Rattle.std.proofs.lemmas.Bool.{cases_eq}
use Rattle.std.proofs.lemmas.List.{ext_get_or}
use Rattle.std.proofs.lemmas.List.Elements.{All-set}
use Rattle.std.proofs.lemmas.Nat.{xor_of_8}
use Rattle.std.specs.Int.Bits.{xor_assoc, xor_self, xor_zero_l, xor_zero_r}
use Rattle.std.specs.List.{Contains}
use Rattle.gf_field.proofs.Powers.{power-lt, power-pos, power_apart}
use Rattle.gf_field.specs.Field.{power, times}
use Rattle.rs_erase.specs.Code.{AgreesOutside, AreElements, ArePlaces}
use Rattle.rs_erase.specs.Equations.{AreLocators, IsNoneOf, locators_of, nth_power, power_sum, word_value, word_with}
use Rattle.rs_erase.proofs.Elements.{cons_elements, elements_head, elements_tail}
use Rattle.rs_erase.proofs.WordValues.{nth_power_swap, word_value_set}

-- places of a word that strictly rise, each at least `from`
abbrev pub RiseFrom : ℕ → List ℕ → Type 0
RiseFrom from [] = Unit {0}
RiseFrom from (e ∷ es) = (from ≤ e) × (e < 255) × RiseFrom (suc e) es

-- places, from the first on
pub rise_from : (f : ℕ) (es : List ℕ) → ((k : ℕ) → k < length es → get_or es k 0 < 255) → ((k : ℕ) → k + 1 < length es → get_or es k 0 < get_or es (k + 1) 0)
    → (0 < length es → f ≤ get_or es 0 0) → RiseFrom f es
rise_from f [] below rising first = tt
rise_from f (e ∷ []) below rising first = (first (omega arith), below 0 (omega arith), tt)
rise_from f (e ∷ g ∷ es) below rising first = (
  first (omega arith),
  below 0 (omega arith),
  rise_from (suc e) (g ∷ es) (λ k lt. below (suc k) (omega arith))
      (λ k lt. subst (λ (n : ℕ). get_or (g ∷ es) k 0 < get_or (e ∷ g ∷ es) n 0) (let q : suc k + 1 ≡ suc (k + 1) = omega arith in q) (rising (suc k) (omega arith)))
      (λ lt. rising 0 (omega arith)),
)

pub places_rise : (es : List ℕ) → ArePlaces es → RiseFrom 0 es
places_rise es h = rise_from 0 es h.below h.rising (λ lt. omega arith)

-- values added at places
pub word_value_word_with : (j : ℕ) (es vs w : List ℕ) (f : ℕ) → RiseFrom f es → length vs ≡ length es → length w ≡ 255
    → word_value (power j) (word_with es vs w) ≡ bit_xor (word_value (power j) w) (power_sum j (locators_of es) vs)
word_value_word_with j [] vs w f rise lv lw = sym (xor_zero_r (word_value (power j) w))
word_value_word_with j (e ∷ es) [] w f rise lv lw = absurd (omega arith)
word_value_word_with j (e ∷ es) (v ∷ vs) w f rise lv lw =
    let a = get_or w e 0 in let w' = slice_set w e (bit_xor a v) in
    let le = rise.1 in
    let lw' : length w' ≡ 255 = length-set w e (bit_xor a v) ∙ lw in
    let m = power_sum j (locators_of es) vs in
    let back : bit_xor a (bit_xor a v) ≡ v = sym (xor_assoc a a v) ∙ ap (λ (z : ℕ). bit_xor z v) (xor_self a) ∙ xor_zero_l v in
    let place : times (bit_xor a (bit_xor a v)) (nth_power (power j) (length w - suc e)) ≡ times v (nth_power (power (254 - e)) j) =
    ap₂ times back (ap (nth_power (power j)) (let q : length w - suc e ≡ 254 - e = omega arith in q) ∙ nth_power_swap j (254 - e)) in
    word_value_word_with j es vs w' (suc e) rise.2 (omega arith) lw'
    ∙ ap (λ (z : ℕ). bit_xor z m) (word_value_set (power j) w e (bit_xor a v) (omega arith) ∙ ap (bit_xor (word_value (power j) w)) place)
    ∙ xor_assoc (word_value (power j) w) (times v (nth_power (power (254 - e)) j)) m

pub length-word_with : (es vs w : List ℕ) → length (word_with es vs w) ≡ length w
length-word_with [] vs w = refl
length-word_with (e ∷ es) [] w = refl
length-word_with (e ∷ es) (v ∷ vs) w =
    length-word_with es vs (slice_set w e (bit_xor (get_or w e 0) v)) ∙ length-set w e (bit_xor (get_or w e 0) v)

pub word_with_elements : (es vs w : List ℕ) (f : ℕ) → RiseFrom f es → AreElements vs → length w ≡ 255 → AreElements w → AreElements (word_with es vs w)
word_with_elements [] vs w f rise hv lw hw = hw
word_with_elements (e ∷ es) [] w f rise hv lw hw = hw
word_with_elements (e ∷ es) (v ∷ vs) w f rise hv lw hw =
    let le = rise.1 in
    let b = bit_xor (get_or w e 0) v in
    word_with_elements es vs (slice_set w e b) (suc e) rise.2 (elements_tail v vs hv) (length-set w e b ∙ lw)
    (All-set (λ n. n < 256) w e b (xor_of_8 (get_or w e 0) v (hw e 0 (omega arith)) (elements_head v vs hv)) hw)

pub away : (e k : ℕ) (es : List ℕ) → (Contains (e ∷ es) k → ⊥) → (k ≢ e) × (Contains es k → ⊥)
away e k es h = (λ q. h (0, omega arith, sym q), λ m. h (suc m.0, (let l = m.1 in omega arith), m.2))

pub word_with_agrees : (es vs w : List ℕ) → AgreesOutside es w (word_with es vs w)
word_with_agrees es vs w = record { long = length-word_with es vs w; same = go es vs w }
  where
    go : (es vs w : List ℕ) (k : ℕ) → (Contains es k → ⊥) → get_or (word_with es vs w) k 0 ≡ get_or w k 0
    go [] vs w k h = refl
    go (e ∷ es) [] w k h = refl
    go (e ∷ es) (v ∷ vs) w k h =
        let a = away e k es h in
        go es vs (slice_set w e (bit_xor (get_or w e 0) v)) k a.1 ∙ get_or-set_other w e k (bit_xor (get_or w e 0) v) 0 a.0

-- what two words differ by at places
abbrev pub differences : List ℕ → List ℕ → List ℕ → List ℕ
differences [] w c = []
differences (e ∷ es) w c = bit_xor (get_or w e 0) (get_or c e 0) ∷ differences es w c

pub length-differences : (es w c : List ℕ) → length (differences es w c) ≡ length es
length-differences [] w c = refl
length-differences (e ∷ es) w c = let h = length-differences es w c in omega arith

pub differences_elements : (es w c : List ℕ) (f : ℕ) → RiseFrom f es → length w ≡ 255 → length c ≡ 255 → AreElements w → AreElements c → AreElements (differences es w c)
differences_elements [] w c f rise lw lc hw hc = λ k d lt. absurd (omega arith)
differences_elements (e ∷ es) w c f rise lw lc hw hc =
    let le = rise.1 in
    cons_elements (bit_xor (get_or w e 0) (get_or c e 0)) (differences es w c) (xor_of_8 (get_or w e 0) (get_or c e 0) (hw e 0 (omega arith)) (hc e 0 (omega arith)))
    (differences_elements es w c (suc e) rise.2 lw lc hw hc)

pub differences_later : (es w c : List ℕ) (e b f : ℕ) → e < f → RiseFrom f es → differences es (slice_set w e b) c ≡ differences es w c
differences_later [] w c e b f lt rise = refl
differences_later (p ∷ es) w c e b f lt rise =
    let le = rise.0 in let ne : p ≢ e = omega arith in
    ap₂ (λ (x : ℕ) (xs : List ℕ). x ∷ xs) (ap (λ (x : ℕ). bit_xor x (get_or c p 0)) (get_or-set_other w e p b 0 ne))
    (differences_later es w c e b (suc p) (omega arith) rise.2)

-- a word that agrees outside the places is the word with the differences added
pub word_with_differences : (es w c : List ℕ) (f : ℕ) → RiseFrom f es → length w ≡ 255 → AgreesOutside es w c → word_with es (differences es w c) w ≡ c
word_with_differences [] w c f rise lw h =
    ext_get_or 0 w c (sym h.long) (λ k lt. sym (h.same k (λ m. let l = m.1 in omega arith)))
word_with_differences (e ∷ es) w c f rise lw h =
    let le = rise.1 in
    let a = get_or w e 0 in let b = get_or c e 0 in
    let back : bit_xor a (bit_xor a b) ≡ b = sym (xor_assoc a a b) ∙ ap (λ (z : ℕ). bit_xor z b) (xor_self a) ∙ xor_zero_l b in
    let w' = slice_set w e b in
    let lw' : length w' ≡ 255 = length-set w e b ∙ lw in
    let agrees : AgreesOutside es w' c = record {
      long = h.long ∙ sym (length-set w e b);
      same = λ k m. elim (cases_eq k e) [
        | inl q ↦ ap (λ (z : ℕ). get_or c z 0) q ∙ sym (get_or-set_same w e b 0 (omega arith)) ∙ ap (λ (z : ℕ). get_or w' z 0) (sym q)
        | inr ne ↦ h.same k (λ n. m (not_first e k es ne n)) ∙ sym (get_or-set_other w e k b 0 ne)
      ];
    } in
    ap (λ (z : ℕ). word_with es (differences es w c) (slice_set w e z)) back
    ∙ ap (λ (ds : List ℕ). word_with es ds w') (sym (differences_later es w c e b (suc e) (omega arith) rise.2))
    ∙ word_with_differences es w' c (suc e) rise.2 lw' agrees
  where
    not_first : (e k : ℕ) (es : List ℕ) → k ≢ e → Contains (e ∷ es) k → Contains es k
    not_first e k es ne n = at n.0 n.1 n.2
      where
        at : (i : ℕ) → i < length (e ∷ es) → get_or (e ∷ es) i k ≡ k → Contains es k
        at zero lt q = absurd (ne (sym q))
        at (suc i) lt q = (i, omega arith, q)

pub later_apart : (e f : ℕ) (es : List ℕ) → e < f → e < 255 → RiseFrom f es → IsNoneOf (power (254 - e)) (locators_of es)
later_apart e f [] lt le rise = tt
later_apart e f (p ∷ es) lt le rise =
    let l0 = rise.0 in let l1 = rise.1 in (
      λ q. let same : 254 - p ≡ 254 - e = power_apart (254 - p) (254 - e) (omega arith) (omega arith) q in omega arith,
      later_apart e (suc p) es (omega arith) le rise.2,
    )

pub are_locators : (f : ℕ) (es : List ℕ) → RiseFrom f es → AreLocators (locators_of es)
are_locators f [] rise = tt
are_locators f (e ∷ es) rise =
    (power-pos (254 - e), power-lt (254 - e), later_apart e (suc e) es (omega arith) rise.1 rise.2, are_locators (suc e) es rise.2)

pub length-locators_of : (es : List ℕ) → length (locators_of es) ≡ length es
length-locators_of [] = refl
length-locators_of (e ∷ es) = let h = length-locators_of es in omega arith

pub locators_by_index : (es xs : List ℕ) → length xs ≡ length es
    → ((k : ℕ) → k < length es → get_or xs k 0 ≡ power (254 - get_or es k 0)) → xs ≡ locators_of es
locators_by_index [] [] le h = refl
locators_by_index [] (x ∷ xs) le h = absurd (omega arith)
locators_by_index (e ∷ es) [] le h = absurd (omega arith)
locators_by_index (e ∷ es) (x ∷ xs) le h =
    ap₂ (λ (y : ℕ) (ys : List ℕ). y ∷ ys) (h 0 (omega arith)) (locators_by_index es xs (omega arith) (λ k lt. h (suc k) (omega arith)))

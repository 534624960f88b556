-- All places but one removed from the syndromes, which leaves its value times a scale.
use Rattle.std.proofs.Common.{◌≡◌, ◌≢◌, ℕ, ◌-◌, ◌<◌, ◌≤◌, zero, suc, List, [], ◌∷◌, length, get_or, replicate, refl, sym, ap, ap₂, ◌∙◌, arith, bit_xor}
use Rattle.std.specs.Int.Bits.{xor_assoc, xor_self, xor_zero_r}
use Rattle.std.proofs.lemmas.Nat.{xor_comm, xor_of_8}
use Rattle.gf_field.specs.Field.{times}
use Rattle.gf_field.proofs.Inverse.{zero_of_times}
use Rattle.gf_field.proofs.Polynomial.{same_from_xor, xor_four}
use Rattle.gf_field.proofs.Times.{times-lt, times_assoc, times_comm, times_one, times_xor, times_zero, zero_times}
use Rattle.rs_erase.specs.Equations.{AreLocators, IsNoneOf, ValuesSolve, SumsFrom, nth_power, power_sum, remaining_syndromes, remaining_values}
use Rattle.rs_erase.specs.FromZero.{syndromes_without}
use Rattle.rs_erase.specs.Polynomial.{add, scale}
use Rattle.rs_erase.specs.Prepared.{geometric, scale_of, sums_product, without}
use Rattle.rs_erase.proofs.Elements.{cons_elements, elements_head, elements_tail}
use Rattle.rs_erase.proofs.EquationLoops.{length_remaining_syndromes}
use Rattle.rs_erase.proofs.OnePlaceLess.{rest_solves, swap}

-- ---- lengths

pub length_left : (zs s : List ℕ) → length (syndromes_without zs s) ≡ length s - length zs
length_left [] s = let e : length s ≡ length s - 0 = omega arith in e
length_left (z ∷ zs) s =
    length_left zs (remaining_syndromes z s)
    ∙ (let l = length_remaining_syndromes z s in let e : length (remaining_syndromes z s) - length zs ≡ length s - suc (length zs) = omega arith in e)

pub length_others : (j : ℕ) (xs : List ℕ) → j < length xs → suc (length (without j xs)) ≡ length xs
length_others j [] lt = absurd (omega arith)
length_others zero (x ∷ xs) lt = refl
length_others (suc j) (x ∷ xs) lt = let h = length_others j xs (omega arith) in omega arith

-- ---- the syndromes of sums

remaining_sum : (x f : ℕ) (s t : List ℕ) → length s ≡ length t
    → remaining_syndromes x (add s (scale f t)) ≡ add (remaining_syndromes x s) (scale f (remaining_syndromes x t))
remaining_sum x f [] [] e = refl
remaining_sum x f [] (b ∷ t) e = absurd (omega arith)
remaining_sum x f (a ∷ s) [] e = absurd (omega arith)
remaining_sum x f (a ∷ []) (b ∷ []) e = refl
remaining_sum x f (a ∷ []) (b ∷ d ∷ t) e = absurd (omega arith)
remaining_sum x f (a ∷ c ∷ s) (b ∷ []) e = absurd (omega arith)
remaining_sum x f (a ∷ c ∷ s) (b ∷ d ∷ t) e =
    ap₂ (λ (z : ℕ) (zs : List ℕ). z ∷ zs)
    (ap (bit_xor (bit_xor c (times f d))) (times_xor x a (times f b) ∙ ap (bit_xor (times x a)) (swap x f b))
    ∙ xor_four c (times f d) (times x a) (times f (times x b))
    ∙ ap (bit_xor (bit_xor c (times x a))) (sym (times_xor f d (times x b))))
    (remaining_sum x f (c ∷ s) (d ∷ t) (omega arith))

pub sum_without : (zs s t : List ℕ) (f : ℕ) → length s ≡ length t
    → syndromes_without zs (add s (scale f t)) ≡ add (syndromes_without zs s) (scale f (syndromes_without zs t))
sum_without [] s t f e = refl
sum_without (z ∷ zs) s t f e =
    ap (syndromes_without zs) (remaining_sum z f s t e)
    ∙ sum_without zs (remaining_syndromes z s) (remaining_syndromes z t) f
    (let a = length_remaining_syndromes z s in let b = length_remaining_syndromes z t in let h : length (remaining_syndromes z s) ≡ length (remaining_syndromes z t) = omega arith in h)

remaining_zeros : (x n : ℕ) → remaining_syndromes x (replicate (suc n) 0) ≡ replicate n 0
remaining_zeros x zero = refl
remaining_zeros x (suc n) =
    ap₂ (λ (z : ℕ) (zs : List ℕ). z ∷ zs) (ap (bit_xor 0) (times_zero x) ∙ xor_self 0) (remaining_zeros x n)

pub zero_at : (n i : ℕ) → let zs : List ℕ = replicate n 0 in get_or zs i 0 ≡ 0
zero_at zero i = refl
zero_at (suc n) zero = refl
zero_at (suc n) (suc i) = zero_at n i

pub zeros_without : (zs : List ℕ) (n i : ℕ) → length zs ≤ n → get_or (syndromes_without zs (replicate n 0)) i 0 ≡ 0
zeros_without [] n i le = zero_at n i
zeros_without (z ∷ zs) zero i le = absurd (omega arith)
zeros_without (z ∷ zs) (suc n) i le =
    ap (λ (s : List ℕ). get_or (syndromes_without zs s) i 0) (remaining_zeros z n) ∙ zeros_without zs n i (omega arith)

-- ---- geometric syndromes

remaining_geometric : (x c y n : ℕ) → remaining_syndromes x (geometric c y (suc n)) ≡ geometric (times c (bit_xor y x)) y n
unfolding geometric
remaining_geometric x c y zero = refl
remaining_geometric x c y (suc n) =
    ap₂ (λ (z : ℕ) (zs : List ℕ). z ∷ zs)
    (ap (bit_xor (times c y)) (times_comm x c) ∙ sym (times_xor c y x))
    (remaining_geometric x (times c y) y n
    ∙ ap (λ (z : ℕ). geometric z y n)
    (times_assoc c y (bit_xor y x) ∙ ap (times c) (times_comm y (bit_xor y x)) ∙ sym (times_assoc c (bit_xor y x) y)))

pub geometric_without : (zs : List ℕ) (c y n : ℕ) → c < 256 → length zs ≤ n
    → syndromes_without zs (geometric c y n) ≡ geometric (times c (sums_product y zs)) y (n - length zs)
unfolding geometric
geometric_without [] c y n lc le =
    ap₂ (λ (z m : ℕ). geometric z y m) (sym (times_one c lc)) (let e : n ≡ n - 0 = omega arith in e)
geometric_without (z ∷ zs) c y zero lc le = absurd (omega arith)
geometric_without (z ∷ zs) c y (suc n) lc le =
    let d = bit_xor y z in
    ap (syndromes_without zs) (remaining_geometric z c y n)
    ∙ geometric_without zs (times c d) y n (times-lt c d) (omega arith)
    ∙ ap₂ (λ (w m : ℕ). geometric w y m) (times_assoc c d (sums_product y zs)) (let e : n - length zs ≡ suc n - suc (length zs) = omega arith in e)

pub geometric_at : (c y n i : ℕ) → c < 256 → i < n → get_or (geometric c y n) i 0 ≡ times c (nth_power y i)
unfolding geometric
geometric_at c y zero i lc lt = absurd (omega arith)
geometric_at c y (suc n) zero lc lt = sym (times_one c lc)
geometric_at c y (suc n) (suc i) lc lt =
    geometric_at (times c y) y n i (times-lt c y) (omega arith) ∙ times_assoc c y (nth_power y i)

pub length_geometric : (c y n : ℕ) → length (geometric c y n) ≡ n
unfolding geometric
length_geometric c y zero = refl
length_geometric c y (suc n) = ap (λ (m : ℕ). suc m) (length_geometric (times c y) y n)

-- ---- one place alone

swapped_sums : (j x y v u : ℕ) (xs vs s : List ℕ) → SumsFrom j (x ∷ y ∷ xs) (v ∷ u ∷ vs) s → SumsFrom j (y ∷ x ∷ xs) (u ∷ v ∷ vs) s
swapped_sums j x y v u xs vs [] h = tt
swapped_sums j x y v u xs vs (a ∷ s) h =
    let p = times v (nth_power x j) in
    let q = times u (nth_power y j) in
    let m = power_sum j xs vs in (
      h.0 ∙ sym (xor_assoc p q m) ∙ ap (λ (z : ℕ). bit_xor z m) (xor_comm p q) ∙ xor_assoc q p m,
      swapped_sums (suc j) x y v u xs vs s h.1,
    )

swapped : (x y v u : ℕ) (xs vs s : List ℕ) → ValuesSolve (x ∷ y ∷ xs) (v ∷ u ∷ vs) s → ValuesSolve (y ∷ x ∷ xs) (u ∷ v ∷ vs) s
swapped x y v u xs vs s h =
    let b = h.elements in
    record {
      one_each = h.one_each;
      elements = cons_elements u (v ∷ vs) (elements_head u vs (elements_tail v (u ∷ vs) b))
          (cons_elements v vs (elements_head v (u ∷ vs) b) (elements_tail u vs (elements_tail v (u ∷ vs) b)));
      sums = swapped_sums 1 x y v u xs vs s h.sums;
    }

-- a factor goes to the sum's place
moved : (v d x p : ℕ) → times (times v d) (times x p) ≡ times v (times x (times d p))
moved v d x p = times_assoc v d (times x p) ∙ ap (times v) (swap d x p)

first_alone : (x v : ℕ) (others vs s : List ℕ) → ValuesSolve (x ∷ others) (v ∷ vs) s → length others < length s
    → times v (times x (sums_product x others)) ≡ get_or (syndromes_without others s) 0 0
first_alone x v [] vs [] h lt = absurd (omega arith)
first_alone x v [] vs (a ∷ s) h lt = sym (h.sums.0 ∙ xor_zero_r (times v (times x 1)))
first_alone x v (y ∷ others) [] s h lt = absurd (let e = h.one_each in omega arith)
first_alone x v (y ∷ others) (u ∷ vs) s h lt =
    let d = bit_xor x y in
    let l = length_remaining_syndromes y s in
    sym (moved v d x (sums_product x others))
    ∙ first_alone x (times v d) others (remaining_values y others vs) (remaining_syndromes y s)
    (rest_solves y u (x ∷ others) (v ∷ vs) s (swapped x y v u others vs s h)) (omega arith)

at_remaining : (y : ℕ) (xs vs : List ℕ) (j : ℕ) → length vs ≡ length xs → j < length xs
    → get_or (remaining_values y xs vs) j 0 ≡ times (get_or vs j 0) (bit_xor (get_or xs j 0) y)
at_remaining y [] vs j e lt = absurd (omega arith)
at_remaining y (x ∷ xs) [] j e lt = absurd (omega arith)
at_remaining y (x ∷ xs) (v ∷ vs) zero e lt = refl
at_remaining y (x ∷ xs) (v ∷ vs) (suc j) e lt = at_remaining y xs vs j (omega arith) (omega arith)

pub alone : (xs vs s : List ℕ) (j : ℕ) → ValuesSolve xs vs s → j < length xs → length xs ≤ length s
    → times (get_or vs j 0) (scale_of xs j) ≡ get_or (syndromes_without (without j xs) s) 0 0
alone [] vs s j h lt le = absurd (omega arith)
alone (x ∷ xs) [] s j h lt le = absurd (let e = h.one_each in omega arith)
alone (x ∷ xs) (v ∷ vs) s zero h lt le = first_alone x v xs vs s h (omega arith)
alone (x ∷ xs) (v ∷ vs) s (suc j) h lt le =
    let y = get_or xs j 0 in
    let u = get_or vs j 0 in
    let p = sums_product y (without j xs) in
    let l = length_remaining_syndromes x s in
    let e = h.one_each in
    let same : length vs ≡ length xs = omega arith in
    sym (ap (λ (z : ℕ). times z (times y p)) (at_remaining x xs vs j same (omega arith)) ∙ moved u (bit_xor y x) y p)
    ∙ alone xs (remaining_values x xs vs) (remaining_syndromes x s) j (rest_solves x v xs vs s h) (omega arith) (omega arith)

-- ---- products of sums

pub sums_positive : (y : ℕ) (xs : List ℕ) → y < 256 → ((k : ℕ) → k < length xs → (get_or xs k 0 < 256) × (get_or xs k 0 ≢ y)) → 0 < sums_product y xs
sums_positive y [] ly h = omega arith
sums_positive y (x ∷ xs) ly h =
    let d = bit_xor y x in
    let p = sums_product y xs in
    let first = h 0 (omega arith) in
    let lx : x < 256 = first.0 in
    let ld : d < 256 = xor_of_8 y x ly lx in
    let apart : d ≡ 0 → ⊥ = λ e. first.1 (sym (same_from_xor y x e)) in
    let rest = sums_positive y xs ly (λ k lt. h (suc k) (omega arith)) in
    let lp : p < 256 = sums-lt y xs in
    let none : times d p ≡ 0 → ⊥ = λ e. let z = zero_of_times d p (omega (arith, apart)) ld lp e in omega arith in
    omega (arith, none)
  where
    sums-lt : (y : ℕ) (xs : List ℕ) → sums_product y xs < 256
    sums-lt y [] = omega arith
    sums-lt y (x ∷ xs) = times-lt (bit_xor y x) (sums_product y xs)

pub no_sum : (y : ℕ) (xs : List ℕ) (k : ℕ) → k < length xs → get_or xs k 0 ≡ y → sums_product y xs ≡ 0
no_sum y [] k lt e = absurd (omega arith)
no_sum y (x ∷ xs) zero lt e =
    ap (λ (z : ℕ). times (bit_xor y z) (sums_product y xs)) e ∙ ap (λ (z : ℕ). times z (sums_product y xs)) (xor_self y) ∙ zero_times (sums_product y xs)
no_sum y (x ∷ xs) (suc k) lt e = ap (times (bit_xor y x)) (no_sum y xs k (omega arith) e) ∙ times_zero (bit_xor y x)

pub sums_with : (y : ℕ) (xs : List ℕ) (j : ℕ) → j < length xs → sums_product y xs ≡ times (bit_xor y (get_or xs j 0)) (sums_product y (without j xs))
sums_with y [] j lt = absurd (omega arith)
sums_with y (x ∷ xs) zero lt = refl
sums_with y (x ∷ xs) (suc j) lt =
    ap (times (bit_xor y x)) (sums_with y xs j (omega arith))
    ∙ swap (bit_xor y x) (bit_xor y (get_or xs j 0)) (sums_product y (without j xs))

-- ---- locators

pub locator-lt : (xs : List ℕ) → AreLocators xs → (k : ℕ) → k < length xs → get_or xs k 0 < 256
locator-lt [] lo k lt = absurd (omega arith)
locator-lt (x ∷ xs) lo zero lt = lo.1
locator-lt (x ∷ xs) lo (suc k) lt = locator-lt xs lo.3 k (omega arith)

pub none_at : (y : ℕ) (xs : List ℕ) → IsNoneOf y xs → (k : ℕ) → k < length xs → get_or xs k 0 ≢ y
none_at y [] h k lt = absurd (omega arith)
none_at y (x ∷ xs) h zero lt = h.0
none_at y (x ∷ xs) h (suc k) lt = none_at y xs h.1 k (omega arith)

pub none_from : (y : ℕ) (xs : List ℕ) → ((k : ℕ) → k < length xs → get_or xs k 0 ≢ y) → IsNoneOf y xs
none_from y [] h = tt
none_from y (x ∷ xs) h = (h 0 (omega arith), none_from y xs (λ k lt. h (suc k) (omega arith)))

-- one of them isn't among the others
pub others_apart : (xs : List ℕ) (j : ℕ) → AreLocators xs → j < length xs
    → (k : ℕ) → k < length (without j xs) → (get_or (without j xs) k 0 < 256) × (get_or (without j xs) k 0 ≢ get_or xs j 0)
others_apart [] j lo lt k lk = absurd (omega arith)
others_apart (x ∷ xs) zero lo lt k lk = (locator-lt xs lo.3 k lk, none_at x xs lo.2 k lk)
others_apart (x ∷ xs) (suc j) lo lt zero lk = (lo.1, λ e. none_at x xs lo.2 j (omega arith) (sym e))
others_apart (x ∷ xs) (suc j) lo lt (suc k) lk = others_apart xs j lo.3 (omega arith) k (omega arith)

pub scale_positive : (xs : List ℕ) (j : ℕ) → AreLocators xs → j < length xs → 0 < get_or xs j 0 → 0 < scale_of xs j
scale_positive xs j lo lt pos =
    let x = get_or xs j 0 in
    let p = sums_product x (without j xs) in
    let lx = locator-lt xs lo j lt in
    let some = sums_positive x (without j xs) lx (others_apart xs j lo lt) in
    let none : times x p ≡ 0 → ⊥ = λ e. let z = zero_of_times x p pos lx (product-lt x (without j xs)) e in omega arith in
    omega (arith, none)
  where
    product-lt : (y : ℕ) (zs : List ℕ) → sums_product y zs < 256
    product-lt y [] = omega arith
    product-lt y (z ∷ zs) = times-lt (bit_xor y z) (sums_product y zs)

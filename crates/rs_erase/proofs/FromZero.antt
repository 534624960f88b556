-- The equations with each value times its locator in place of the value.
use Rattle.std.proofs.Common.{◌≡◌, ℕ, ◌+◌, ◌<◌, ◌≤◌, zero, suc, List, [], ◌∷◌, length, get_or, take, drop, refl, sym, ap, ap₂, ◌∙◌, subst, arith, bit_xor}
use Rattle.std.specs.List.{All}
use Rattle.std.specs.Int.Bits.{xor_assoc, xor_zero_r, xor_zero_l}
use Rattle.gf_field.specs.Field.{times}
use Rattle.gf_field.proofs.Times.{times-lt, times_assoc, times_one}
use Rattle.rs_erase.specs.Code.{AreElements}
use Rattle.rs_erase.specs.Equations.{AreLocators, ValuesSolve, SumsFrom, nth_power, power_sum, remaining_syndromes, remaining_values}
use Rattle.rs_erase.specs.FromZero.{SolvesFromZero, syndromes_without, weighted}
use Rattle.rs_erase.proofs.Elements.{cons_elements, no_elements}
use Rattle.rs_erase.proofs.EquationLoops.{sums_zero, zero_sums}
use Rattle.rs_erase.proofs.OnePlaceLess.{length-remaining_values, remaining_values_elements, with_first, without_first, xor_twice}

-- ---- all places removed

pub none_found : (xs vs s : List ℕ) → length xs ≡ 0 → length vs ≡ 0 → All (λ a. a ≡ 0) s → SolvesFromZero xs vs s
none_found [] [] s e lv h = record { one_each = refl; elements = no_elements; sums = zero_sums 0 s h }
none_found [] (v ∷ vs) s e lv h = absurd (omega arith)
none_found (x ∷ xs) vs s e lv h = absurd (omega arith)

rest_solves : (x v : ℕ) (xs vs s : List ℕ) → SolvesFromZero (x ∷ xs) (v ∷ vs) s → SolvesFromZero xs (remaining_values x xs vs) (remaining_syndromes x s)
rest_solves x v xs vs s h =
    record {
      one_each = length-remaining_values x xs vs (let e = h.one_each in omega arith);
      elements = remaining_values_elements x xs vs;
      sums = without_first 0 x v xs vs s h.sums;
    }

-- where there are products, no syndrome is left
pub none_left : (xs vs s : List ℕ) → SolvesFromZero xs vs s → All (λ a. a ≡ 0) (syndromes_without xs s)
none_left [] vs s h = sums_zero 0 vs s h.sums
none_left (x ∷ xs) [] s h = absurd (let e = h.one_each in omega arith)
none_left (x ∷ xs) (v ∷ vs) s h = none_left xs (remaining_values x xs vs) (remaining_syndromes x s) (rest_solves x v xs vs s h)

-- ---- one place found

pub one_more : (x v a : ℕ) (xs vs s : List ℕ) → v ≡ bit_xor a (power_sum 0 xs vs) → v < 256 → AreElements vs → length vs ≡ length xs
    → SolvesFromZero xs (remaining_values x xs vs) (remaining_syndromes x (a ∷ s)) → SolvesFromZero (x ∷ xs) (v ∷ vs) (a ∷ s)
one_more x v a xs vs s hv lt bv lv h =
    let m = power_sum 0 xs vs in
    let head : a ≡ power_sum 0 (x ∷ xs) (v ∷ vs) =
    sym (xor_twice a m) ∙ ap (λ (z : ℕ). bit_xor z m) (sym hv ∙ sym (times_one v lt)) in
    record { one_each = omega arith; elements = cons_elements v vs lt bv; sums = with_first 0 x v xs vs a s head h.sums }

-- the first product from the first syndrome and the quotients of the products without this place
pub first_found : (xs ps s : List ℕ) (x p : ℕ) (others rest quotients : List ℕ) (v : ℕ) → xs ≡ x ∷ others → ps ≡ p ∷ rest → length xs ≤ length s
    → remaining_values x others quotients ≡ rest → AreElements quotients → length quotients ≡ length others
    → v ≡ bit_xor p (power_sum 0 others quotients) → v < 256 → get_or ps 0 0 ≡ get_or s 0 0
    → SolvesFromZero (drop 1 xs) (drop 1 ps) (remaining_syndromes (get_or xs 0 0) s) → SolvesFromZero xs (v ∷ quotients) s
first_found [] ps s x p others rest quotients v ex ep le eq bq lq ev lv ea h = absurd (let l = ap length ex in omega arith)
first_found (y ∷ ys) [] s x p others rest quotients v ex ep le eq bq lq ev lv ea h = absurd (let l = ap length ep in omega arith)
first_found (y ∷ ys) (q ∷ qs) [] x p others rest quotients v ex ep le eq bq lq ev lv ea h = absurd (omega arith)
first_found (y ∷ ys) (q ∷ qs) (a ∷ s) x p others rest quotients v ex ep le eq bq lq ev lv ea h =
    let ey : y ≡ x = cc in
    let eys : ys ≡ others = cc in
    let eqs : qs ≡ rest = cc in
    let eqp : q ≡ p = cc in
    let inner : SolvesFromZero others (remaining_values x others quotients) (remaining_syndromes x (a ∷ s)) =
    subst (λ (us : List ℕ). SolvesFromZero others us (remaining_syndromes x (a ∷ s))) (eqs ∙ sym eq)
    (subst (λ (z : ℕ). SolvesFromZero others qs (remaining_syndromes z (a ∷ s))) ey
    (subst (λ (zs : List ℕ). SolvesFromZero zs qs (remaining_syndromes y (a ∷ s))) eys h)) in
    let value : v ≡ bit_xor a (power_sum 0 others quotients) = ev ∙ ap (λ (z : ℕ). bit_xor z (power_sum 0 others quotients)) (sym eqp ∙ ea) in
    subst (λ (zs : List ℕ). SolvesFromZero zs (v ∷ quotients) (a ∷ s)) (sym ex) (one_more x v a others quotients s value lv bq lq inner)

-- the sum of the quotients so far, and one more
pub sum_step : (xs vs : List ℕ) (i : ℕ) → length vs ≡ length xs → i < length xs → (v : ℕ) → v ≡ get_or vs i 0 → v < 256
    → power_sum 0 (take (i + 1) xs) (take (i + 1) vs) ≡ bit_xor (power_sum 0 (take i xs) (take i vs)) v
sum_step [] vs i lv lt v hv bv = absurd (omega arith)
sum_step (x ∷ xs) [] i lv lt v hv bv = absurd (omega arith)
sum_step (x ∷ xs) (w ∷ vs) zero lv lt v hv bv =
    xor_zero_r (times w 1) ∙ ap (λ (z : ℕ). times z 1) (sym hv) ∙ times_one v bv ∙ sym (xor_zero_l v)
sum_step (x ∷ xs) (w ∷ vs) (suc i) lv lt v hv bv =
    ap (λ (n : ℕ). power_sum 0 (take n (x ∷ xs)) (take n (w ∷ vs))) (let e : suc i + 1 ≡ suc (i + 1) = omega arith in e)
    ∙ ap (bit_xor (times w 1)) (sum_step xs vs i (omega arith) (omega arith) v hv bv) ∙ sym (xor_assoc (times w 1) (power_sum 0 (take i xs) (take i vs)) v)

-- ---- from products to values and back

power_sum_weighted : (j : ℕ) (xs vs : List ℕ) → power_sum j xs (weighted xs vs) ≡ power_sum (suc j) xs vs
power_sum_weighted j [] vs = refl
power_sum_weighted j (x ∷ xs) [] = refl
power_sum_weighted j (x ∷ xs) (v ∷ vs) = ap₂ bit_xor (times_assoc v x (nth_power x j)) (power_sum_weighted j xs vs)

sums_weighted : (j : ℕ) (xs vs s : List ℕ) → SumsFrom (suc j) xs vs s → SumsFrom j xs (weighted xs vs) s
sums_weighted j xs vs [] h = tt
sums_weighted j xs vs (a ∷ s) h = (h.0 ∙ sym (power_sum_weighted j xs vs), sums_weighted (suc j) xs vs s h.1)

sums_bare : (j : ℕ) (xs vs s : List ℕ) → SumsFrom j xs (weighted xs vs) s → SumsFrom (suc j) xs vs s
sums_bare j xs vs [] h = tt
sums_bare j xs vs (a ∷ s) h = (h.0 ∙ power_sum_weighted j xs vs, sums_bare (suc j) xs vs s h.1)

length-weighted : (xs vs : List ℕ) → length vs ≡ length xs → length (weighted xs vs) ≡ length xs
length-weighted [] vs e = refl
length-weighted (x ∷ xs) [] e = absurd (omega arith)
length-weighted (x ∷ xs) (v ∷ vs) e = ap (λ (k : ℕ). suc k) (length-weighted xs vs (omega arith))

weighted_elements : (xs vs : List ℕ) → AreElements (weighted xs vs)
weighted_elements [] vs = no_elements
weighted_elements (x ∷ xs) [] = no_elements
weighted_elements (x ∷ xs) (v ∷ vs) = cons_elements (times v x) (weighted xs vs) (times-lt v x) (weighted_elements xs vs)

pub weighted_solves : (xs vs s : List ℕ) → ValuesSolve xs vs s → SolvesFromZero xs (weighted xs vs) s
weighted_solves xs vs s h = record { one_each = length-weighted xs vs h.one_each; elements = weighted_elements xs vs; sums = sums_weighted 0 xs vs s h.sums }

pub bare_solves : (xs vs us s : List ℕ) → length vs ≡ length xs → AreElements vs → us ≡ weighted xs vs → SolvesFromZero xs us s → ValuesSolve xs vs s
bare_solves xs vs us s lv bv e h = record { one_each = lv; elements = bv; sums = sums_bare 0 xs vs s (subst (λ (w : List ℕ). SumsFrom 0 xs w s) e h.sums) }

pub weighted_by_index : (xs vs us : List ℕ) → length vs ≡ length xs → length us ≡ length xs
    → ((k : ℕ) → k < length xs → times (get_or vs k 0) (get_or xs k 0) ≡ get_or us k 0) → us ≡ weighted xs vs
weighted_by_index [] vs [] lv lu h = refl
weighted_by_index [] vs (u ∷ us) lv lu h = absurd (omega arith)
weighted_by_index (x ∷ xs) [] us lv lu h = absurd (omega arith)
weighted_by_index (x ∷ xs) (v ∷ vs) [] lv lu h = absurd (omega arith)
weighted_by_index (x ∷ xs) (v ∷ vs) (u ∷ us) lv lu h =
    ap₂ (λ (w : ℕ) (ws : List ℕ). w ∷ ws) (sym (h 0 (omega arith))) (weighted_by_index xs vs us (omega arith) (omega arith) (λ k lt. h (suc k) (omega arith)))

pub locator_pos : (xs : List ℕ) → AreLocators xs → (k : ℕ) → k < length xs → 0 < get_or xs k 0
locator_pos [] lo k lt = absurd (omega arith)
locator_pos (x ∷ xs) lo zero lt = lo.0
locator_pos (x ∷ xs) lo (suc k) lt = locator_pos xs lo.3 k (omega arith)

-- What the loops over the equations write and read, by their indices.
use Rattle.std.proofs.Common.{[], All, List, ap, ap₂, arith, bit_xor, get_or, length, refl, subst, suc, sym, zero, ℕ, ◌-◌, ◌<◌, ◌∙◌, ◌∷◌, ◌≡◌, ◌≤◌}
use Rattle.std.proofs.lemmas.Nat.{xor_of_8}
use Rattle.gf_field.proofs.Polynomial.{same_from_xor}
use Rattle.gf_field.proofs.Times.{times-lt, times_assoc, times_comm, times_one}
use Rattle.gf_field.specs.Field.{times}
use Rattle.rs_erase.specs.Code.{AreElements}
use Rattle.rs_erase.specs.Equations.{AreLocators, IsNoneOf, ValuesSolve, SumsFrom, nth_power, power_sum, remaining_syndromes, remaining_values}
use Rattle.rs_erase.proofs.Elements.{cons_elements, elements_head, elements_tail}
use Rattle.rs_erase.proofs.OnePlaceLess.{length-remaining_syndromes, rest_solves, whole_solves}

pub length_remaining_syndromes : (x : ℕ) (s : List ℕ) → length (remaining_syndromes x s) ≡ length s - 1
length_remaining_syndromes x [] = refl
length_remaining_syndromes x (a ∷ s) = let h = length-remaining_syndromes x a s in omega arith

pub apart_at : (y : ℕ) (xs : List ℕ) → IsNoneOf y xs → (k : ℕ) → k < length xs → bit_xor (get_or xs k 0) y ≡ 0 → ⊥
apart_at y [] h k lt e = absurd (omega arith)
apart_at y (x ∷ xs) h zero lt e = h.0 (same_from_xor x y e)
apart_at y (x ∷ xs) h (suc k) lt e = apart_at y xs h.1 k (omega arith) e

pub remaining_values_by_index : (y : ℕ) (xs vs us : List ℕ) → length vs ≡ length xs → length us ≡ length xs
    → ((k : ℕ) → k < length xs → times (get_or vs k 0) (bit_xor (get_or xs k 0) y) ≡ get_or us k 0) → remaining_values y xs vs ≡ us
remaining_values_by_index y [] vs [] lv lu h = refl
remaining_values_by_index y [] vs (u ∷ us) lv lu h = absurd (omega arith)
remaining_values_by_index y (x ∷ xs) [] us lv lu h = absurd (omega arith)
remaining_values_by_index y (x ∷ xs) (v ∷ vs) [] lv lu h = absurd (omega arith)
remaining_values_by_index y (x ∷ xs) (v ∷ vs) (u ∷ us) lv lu h =
    ap₂ (λ (w : ℕ) (ws : List ℕ). w ∷ ws) (h 0 (omega arith))
    (remaining_values_by_index y xs vs us (omega arith) (omega arith) (λ k lt. h (suc k) (omega arith)))

-- a value times an inverse, times what it is the inverse of
pub divided : (v d i r : ℕ) → v < 256 → times d i ≡ 1 → r ≡ times v i → times r d ≡ v
divided v d i r lv one e =
    ap (λ (m : ℕ). times m d) e ∙ times_assoc v i d ∙ ap (times v) (times_comm i d ∙ one) ∙ times_one v lv

-- all zeros are the syndromes of no values
pub zero_sums : (j : ℕ) (s : List ℕ) → All (λ a. a ≡ 0) s → SumsFrom j [] [] s
zero_sums j [] h = tt
zero_sums j (a ∷ s) h = (h 0 0 (omega arith), zero_sums (suc j) s (λ k d lt. h (suc k) d (omega arith)))

pub zero_cons : (a : ℕ) (s : List ℕ) → a ≡ 0 → All (λ b. b ≡ 0) s → All (λ b. b ≡ 0) (a ∷ s)
zero_cons a s e h = go
  where
    go : (k d : ℕ) → k < length (a ∷ s) → get_or (a ∷ s) k d ≡ 0
    go zero d lt = e
    go (suc k) d lt = h k d (omega arith)

pub sums_zero : (j : ℕ) (vs s : List ℕ) → SumsFrom j [] vs s → All (λ a. a ≡ 0) s
sums_zero j vs [] h = λ k d lt. absurd (omega arith)
sums_zero j vs (a ∷ s) h = zero_cons a s h.0 (sums_zero (suc j) vs s h.1)

pub none_found : (xs vs s : List ℕ) → length xs ≡ 0 → length vs ≡ length xs → All (λ a. a ≡ 0) s → ValuesSolve xs vs s
none_found [] [] s e lv h = record { one_each = refl; elements = λ k d lt. absurd (omega arith); sums = zero_sums 1 s h }
none_found [] (v ∷ vs) s e lv h = absurd (omega arith)
none_found (x ∷ xs) vs s e lv h = absurd (omega arith)

pub none_complete : (xs vs s : List ℕ) → length xs ≡ 0 → ValuesSolve xs vs s → All (λ a. a ≡ 0) s
none_complete [] vs s e h = sums_zero 1 vs s h.sums
none_complete (x ∷ xs) vs s e h = absurd (omega arith)

pub remaining_syndromes_elements : (x : ℕ) (s : List ℕ) → AreElements s → AreElements (remaining_syndromes x s)
remaining_syndromes_elements x [] h = h
remaining_syndromes_elements x (a ∷ []) h = λ k d lt. absurd (omega arith)
remaining_syndromes_elements x (a ∷ b ∷ s) h =
    cons_elements (bit_xor b (times x a)) (remaining_syndromes x (b ∷ s)) (xor_of_8 b (times x a) (h 1 0 (omega arith)) (times-lt x a)) (remaining_syndromes_elements x (b ∷ s) (elements_tail a (b ∷ s) h))

-- what the call for the other places requires
pub rest_required : (xs s left others : List ℕ) (x n : ℕ) → xs ≡ x ∷ others → AreLocators xs → AreElements s → length xs ≤ length s
    → left ≡ remaining_syndromes x s → AreLocators others × AreElements left × (length others ≤ length left)
rest_required xs s left others x n e lo bs le el =
    let lo' : AreLocators (x ∷ others) = subst AreLocators e lo in
    let lx = ap length e in
    let ll : length left ≡ length s - 1 = ap length el ∙ length_remaining_syndromes x s in
    (lo'.3, subst AreElements (sym el) (remaining_syndromes_elements x s bs), omega arith)

pub rest_complete : (xs vs s left others : List ℕ) (x : ℕ) → xs ≡ x ∷ others → left ≡ remaining_syndromes x s → ValuesSolve xs vs s → (us : List ℕ) × ValuesSolve others us left
rest_complete [] vs s left others x e el h = absurd (let lx = ap length e in omega arith)
rest_complete (y ∷ ys) [] s left others x e el h = absurd (let lv = h.one_each in omega arith)
rest_complete (y ∷ ys) (v ∷ vs) s left others x e el h =
    let same : y ≡ x = cc in
    let rest : ys ≡ others = cc in
    let inner : ValuesSolve ys (remaining_values y ys vs) (remaining_syndromes y s) = rest_solves y v ys vs s h in
    let el' : remaining_syndromes y s ≡ left = ap (λ (z : ℕ). remaining_syndromes z s) same ∙ sym el in
    (remaining_values y ys vs, subst (λ (zs : List ℕ). ValuesSolve zs (remaining_values y ys vs) left) rest (subst (λ (t : List ℕ). ValuesSolve ys (remaining_values y ys vs) t) el' inner))

-- the value of the removed place
pub first_value : (x i a m v : ℕ) → x < 256 → a < 256 → m < 256 → times x i ≡ 1 → v ≡ times (bit_xor a m) i → times v x ≡ bit_xor a m
first_value x i a m v lx la lm one e = divided (bit_xor a m) x i v (xor_of_8 a m la lm) one e

pub power_sum-lt : (j : ℕ) (xs vs : List ℕ) → power_sum j xs vs < 256
power_sum-lt j [] vs = omega arith
power_sum-lt j (x ∷ xs) [] = omega arith
power_sum-lt j (x ∷ xs) (v ∷ vs) = xor_of_8 (times v (nth_power x j)) (power_sum j xs vs) (times-lt v (nth_power x j)) (power_sum-lt j xs vs)

pub all_found : (xs s left others us vs : List ℕ) (x a i sum v : ℕ) → xs ≡ x ∷ others → AreLocators xs → AreElements s → length xs ≤ length s
    → left ≡ remaining_syndromes x s → ValuesSolve others us left → remaining_values x others vs ≡ us → AreElements vs → length vs ≡ length others
    → a ≡ get_or s 0 0 → times x i ≡ 1 → sum ≡ bit_xor a (power_sum 1 others vs) → v ≡ times sum i → ValuesSolve xs (v ∷ vs) s
all_found xs [] left others us vs x a i sum v e lo bs le el h hd bv lv ha one hs hv = absurd (let lx = ap length e in omega arith)
all_found xs (b ∷ s) left others us vs x a i sum v e lo bs le el h hd bv lv ha one hs hv =
    let lo' : AreLocators (x ∷ others) = subst AreLocators e lo in
    let inner : ValuesSolve others (remaining_values x others vs) (remaining_syndromes x (b ∷ s)) =
    subst (λ (t : List ℕ). ValuesSolve others t (remaining_syndromes x (b ∷ s))) (sym hd) (subst (λ (t : List ℕ). ValuesSolve others us t) el h) in
    let P : ℕ → Type 0 = λ n. n < 256 in
    let sum' : sum ≡ bit_xor b (power_sum 1 others vs) = hs ∙ ap (λ (z : ℕ). bit_xor z (power_sum 1 others vs)) ha in
    let whole : ValuesSolve (x ∷ others) (v ∷ vs) (b ∷ s) =
    whole_solves x v others vs b s lo' lv (subst P (sym hv) (times-lt sum i)) bv
    (first_value x i b (power_sum 1 others vs) v lo'.1 (elements_head b s bs) (power_sum-lt 1 others vs) one (hv ∙ ap (λ (z : ℕ). times z i) sum')) inner in
    subst (λ (zs : List ℕ). ValuesSolve zs (v ∷ vs) (b ∷ s)) (sym e) whole

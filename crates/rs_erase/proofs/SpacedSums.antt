-- What the lanes of spaced places come to.
use Rattle.std.proofs.Common.{◌≡◌, ◌≢◌, ℕ, zero, suc, ◌+◌, ◌-◌, ◌*◌, ◌<◌, ◌≤◌, List, [], ◌∷◌, length, get_or, get_or-set_other, slice_set, take, drop, map, replicate, refl, sym, ap, ap₂, ◌∙◌, subst, arith, bit_xor}
use Rattle.std.proofs.lemmas.List.{get_or-drop, get_or-map, get_or-take, length-drop, length-map, length-take-le}
use lib.Lanes.{chunk}
use Rattle.std.proofs.lemmas.Nat.{xor_comm}
use Rattle.gf_field.specs.Field.{power, times}
use Rattle.gf_field.proofs.Powers.{power-lt, power_add}
use Rattle.gf_field.proofs.Inverse.{times_cancel}
use Rattle.gf_field.proofs.Times.{times-lt, times_assoc, times_comm, times_one, times_xor}
use Rattle.rs_erase.specs.Code.{ArePlaces}
use Rattle.rs_erase.specs.Equations.{locators_of, nth_power, word_with}
use Rattle.rs_erase.specs.FromZero.{syndromes_without}
use Rattle.rs_erase.specs.Polynomial.{add, scale}
use Rattle.rs_erase.specs.Prepared.{AreWeights, sums_product, syndromes_of_symbol, without}
use Rattle.rs_erase.specs.Spaced.{AreFactors, AreInMessage, AreLanes, IsSpaced, IsSpacing, spaced_sum}
use Rattle.rs_erase.proofs.FoundRows.{added_at, first_of_symbol, left_of_sum, left_of_symbol}
use Rattle.rs_erase.proofs.OnePlaceLess.{swap}
use Rattle.rs_erase.proofs.OtherPlaces.{geometric_at, length_geometric, length_others, sums_with, zero_at, zeros_without}
use Rattle.rs_erase.proofs.RootSums.{HasSummed, none_summed, one_summed}
use Rattle.rs_erase.proofs.SymbolSums.{table_row}

-- the syndromes of the first p symbols
unfoldable pub syndromes_to : List ℕ → ℕ → List ℕ
syndromes_to r zero = replicate 48 0
syndromes_to r (suc p) = add (syndromes_to r p) (scale (get_or r p 0) (syndromes_of_symbol p))

pub summed_to : (r : List ℕ) (p : ℕ) → length r ≡ 48 → p ≤ 48 → HasSummed r (syndromes_to r p) p
unfolding syndromes_to
summed_to r zero lr le = none_summed r
summed_to r (suc p) lr le =
    let next : p + 1 ≡ suc p = omega arith in
    subst (HasSummed r (add (syndromes_to r p) (scale (get_or r p 0) (syndromes_of_symbol p)))) next
    (one_summed r (syndromes_to r p) (add (syndromes_to r p) (scale (get_or r p 0) (syndromes_of_symbol p))) (syndromes_of_symbol p) (get_or r p 0) p (omega arith) lr refl
    (sym (table_row p (omega arith))) refl (summed_to r p lr (omega arith)))

pub length_to : (r : List ℕ) (p : ℕ) → length r ≡ 48 → p ≤ 48 → length (syndromes_to r p) ≡ 48
length_to r p lr le = let h = summed_to r p lr le in h.long

symbol_long : (p : ℕ) → length (syndromes_of_symbol p) ≡ 48
symbol_long p = length_geometric (power (47 - p)) (power (47 - p)) 48

-- a quotient by the sum of 1 and 2 to the m, times a product with the sum of locators that stand so far apart
times_quotient : (y x p r t m : ℕ) → y < 256 → x ≡ times y (power m) → times t (bit_xor (power m) 1) ≡ 1
    → times (times (times (bit_xor y x) p) r) t ≡ times r (times y p)
times_quotient y x p r t m ly hx ht =
    let d = bit_xor y x in
    let sum : d ≡ times y (bit_xor 1 (power m)) =
    ap₂ bit_xor (sym (times_one y ly)) hx ∙ sym (times_xor y 1 (power m)) in
    let one : times (bit_xor 1 (power m)) t ≡ 1 = times_comm (bit_xor 1 (power m)) t ∙ ap (times t) (xor_comm 1 (power m)) ∙ ht in
    let quotient : times d t ≡ y = ap (λ (z : ℕ). times z t) sum ∙ times_assoc y (bit_xor 1 (power m)) t ∙ ap (times y) one ∙ times_one y ly in
    times_assoc (times d p) r t ∙ swap (times d p) r t
    ∙ ap (times r) (ap (λ (z : ℕ). times z t) (times_comm d p) ∙ times_assoc p d t ∙ ap (times p) quotient ∙ times_comm p y)

-- A lane comes to the first of the syndromes that remain without the other places.
pub lane_sum : (xs r s table : List ℕ) (distance start i j p : ℕ) → length xs ≤ 48 → j < length xs → get_or xs j 0 ≡ power (254 - (start + distance * i))
    → start + distance * i < 207 → ((q : ℕ) → q < 48 → get_or s q 0 ≡ times (sums_product (power (47 - q)) xs) (get_or r q 0))
    → IsSpacing distance table → i < 16 → length r ≡ 48 → p ≤ 48
    → spaced_sum table s (207 - start) i p ≡ get_or (syndromes_without (without j xs) (syndromes_to r p)) 0 0
unfolding syndromes_to spaced_sum
lane_sum xs r s table distance start i j zero le lj located inside factors spacing li lr lp =
    let l = length_others j xs lj in
    sym (zeros_without (without j xs) 48 0 (omega arith))
lane_sum xs r s table distance start i j (suc p) le lj located inside factors spacing li lr lp =
    let l = length_others j xs lj in
    let y = power (47 - p) in
    let x = get_or xs j 0 in
    let row = 207 - start + p in
    let m = row - distance * i in
    let others = sums_product y (without j xs) in
    let f = get_or r p 0 in
    let t = get_or table (16 * row + i) 0 in
    let far : 254 - (start + distance * i) ≡ 47 - p + m = omega arith in
    let is : x ≡ times y (power m) = located ∙ ap power far ∙ power_add (47 - p) m in
    ap₂ bit_xor
    (lane_sum xs r s table distance start i j p le lj located inside factors spacing li lr (omega arith))
    (ap (λ (z : ℕ). times z t) (factors p (omega arith) ∙ ap (λ (z : ℕ). times z f) (sums_with y xs j lj))
    ∙ times_quotient y x others f t m (power-lt (47 - p)) is (spacing row i (omega arith) li (omega arith))
    ∙ ap (times f) (sym (first_of_symbol xs y j (power-lt (47 - p)) le lj)))
    ∙ sym (left_of_sum (without j xs) (syndromes_to r p) (syndromes_of_symbol p) f 0 (length_to r p lr (omega arith)) (symbol_long p) (omega arith))

-- The values of the multiplied symbols are what is left without all places.
pub left_sum : (xs r s : List ℕ) (i p : ℕ) → length xs ≤ 48 → i < 48 - length xs
    → ((q : ℕ) → q < 48 → get_or s q 0 ≡ times (sums_product (power (47 - q)) xs) (get_or r q 0)) → length r ≡ 48 → length s ≡ 48 → p ≤ 48
    → get_or (syndromes_to s p) i 0 ≡ get_or (syndromes_without xs (syndromes_to r p)) i 0
unfolding syndromes_to
left_sum xs r s i zero le li factors lr ls lp = zero_at 48 i ∙ sym (zeros_without xs 48 i le)
left_sum xs r s i (suc p) le li factors lr ls lp =
    let y = power (47 - p) in
    let f = get_or r p 0 in
    let g = sums_product y xs in
    let n = nth_power y i in
    let lt = length_to s p ls (omega arith) in
    let long = symbol_long p in
    added_at (get_or s p 0) (syndromes_to s p) (syndromes_of_symbol p) i (omega arith) (omega arith)
    ∙ ap₂ bit_xor
    (left_sum xs r s i p le li factors lr ls (omega arith))
    (ap₂ times (factors p (omega arith)) (geometric_at y y 48 i (power-lt (47 - p)) (omega arith))
    ∙ ap (λ (z : ℕ). times z (times y n)) (times_comm g f) ∙ times_assoc f g (times y n)
    ∙ ap (times f) (sym (times_assoc g y n) ∙ ap (λ (z : ℕ). times z n) (times_comm g y))
    ∙ ap (times f) (sym (left_of_symbol xs y i (power-lt (47 - p)) le li)))
    ∙ sym (left_of_sum xs (syndromes_to r p) (syndromes_of_symbol p) f i (length_to r p lr (omega arith)) (symbol_long p) li)

-- ---- sums and lanes

pub no_sum_yet : (table s : List ℕ) (r i : ℕ) → get_or (replicate 16 0) i 0 ≡ spaced_sum table s r i 0
unfolding spaced_sum
no_sum_yet table s r i = zero_at 16 i

pub next_sum : (table s lanes row new : List ℕ) (r p i f : ℕ) → i < 16 → length lanes ≡ 16 → length row ≡ 16 → f ≡ get_or s p 0
    → get_or row i 0 ≡ times f (get_or table (16 * (r + p) + i) 0) → get_or new i 0 ≡ bit_xor (get_or lanes i 0) (get_or row i 0)
    → get_or lanes i 0 ≡ spaced_sum table s r i p → get_or new i 0 ≡ spaced_sum table s r i (p + 1)
unfolding spaced_sum
next_sum table s lanes row new r p i f lt ll lr hf hr hn h =
    let next : suc p ≡ p + 1 = omega arith in
    hn ∙ ap₂ bit_xor h (hr ∙ ap (λ (z : ℕ). times z (get_or table (16 * (r + p) + i) 0)) hf)
    ∙ ap (spaced_sum table s r i) next

pub row_at : (table row : List ℕ) (f r i : ℕ) → 16 * r + 16 ≤ length table → i < 16 → row ≡ map (times f) (chunk (16 * r) 16 table)
    → get_or row i 0 ≡ times f (get_or table (16 * r + i) 0)
row_at table row f r i room lt is =
    let part = chunk (16 * r) 16 table in
    let ld = length-drop (16 * r) table in
    let lp : length part ≡ 16 = length-take-le 16 (drop (16 * r) table) (omega arith) in
    ap (λ (zs : List ℕ). get_or zs i 0) is ∙ get_or-map (times f) part i 0 0 (omega arith)
    ∙ ap (times f) (get_or-take 16 (drop (16 * r) table) i 0 lt ∙ get_or-drop (16 * r) table i 0)

pub row_length : (table row : List ℕ) (f r : ℕ) → 16 * r + 16 ≤ length table → row ≡ map (times f) (chunk (16 * r) 16 table) → length row ≡ 16
row_length table row f r room is =
    let ld = length-drop (16 * r) table in
    ap (λ (zs : List ℕ). length zs) is ∙ length-map (chunk (16 * r) 16 table) (times f) ∙ length-take-le 16 (drop (16 * r) table) (omega arith)

-- ---- places

pub rises_by : (es : List ℕ) → ArePlaces es → (j n : ℕ) → j + n < length es → get_or es j 0 ≤ get_or es (j + n) 0
rises_by es h j zero lt = let e : j + 0 ≡ j = omega arith in subst (λ (k : ℕ). get_or es j 0 ≤ get_or es k 0) (sym e) (omega arith)
rises_by es h j (suc n) lt =
    let next : j + n + 1 ≡ j + suc n = omega arith in
    let one : get_or es (j + n) 0 < get_or es (j + suc n) 0 = subst (λ (k : ℕ). get_or es (j + n) 0 < get_or es k 0) next (h.rising (j + n) (omega arith)) in
    let before = rises_by es h j n (omega arith) in
    omega arith

pub in_message_to : (es : List ℕ) (j : ℕ) → ArePlaces es → j < length es → ((k : ℕ) → k < j → get_or es k 0 < 207) → 207 ≤ get_or es j 0 → AreInMessage es j
in_message_to es j h lt before here = record {
  few = omega arith;
  before = before;
  behind = λ k le lk.
      let e : j + (k - j) ≡ k = omega arith in
      let up = subst (λ (n : ℕ). get_or es j 0 ≤ get_or es n 0) e (rises_by es h j (k - j) (omega arith)) in
      omega arith;
}

-- ---- the message

unchanged_front : (es vs w : List ℕ) (q : ℕ) → q < 207 → ((j : ℕ) → j < length es → 207 ≤ get_or es j 0) → get_or (word_with es vs w) q 0 ≡ get_or w q 0
unchanged_front [] vs w q lq h = refl
unchanged_front (e ∷ es) [] w q lq h = refl
unchanged_front (e ∷ es) (v ∷ vs) w q lq h =
    let first = h 0 (omega arith) in
    let ne : q ≢ e = omega arith in
    unchanged_front es vs (slice_set w e (bit_xor (get_or w e 0) v)) q lq (λ j lt. h (suc j) (omega arith))
    ∙ get_or-set_other w e q (bit_xor (get_or w e 0) v) 0 ne

pub unchanged_back : (es vs w : List ℕ) (q : ℕ) → 207 ≤ q → ((j : ℕ) → j < length es → get_or es j 0 < 207) → get_or (word_with es vs w) q 0 ≡ get_or w q 0
unchanged_back [] vs w q lq h = refl
unchanged_back (e ∷ es) [] w q lq h = refl
unchanged_back (e ∷ es) (v ∷ vs) w q lq h =
    let first = h 0 (omega arith) in
    let ne : q ≢ e = omega arith in
    unchanged_back es vs (slice_set w e (bit_xor (get_or w e 0) v)) q lq (λ j lt. h (suc j) (omega arith))
    ∙ get_or-set_other w e q (bit_xor (get_or w e 0) v) 0 ne

-- the places behind the message don't change it
pub same_message : (m : ℕ) (es vs w : List ℕ) (q : ℕ) → q < 207 → length vs ≡ length es → ((j : ℕ) → m ≤ j → j < length es → 207 ≤ get_or es j 0)
    → get_or (word_with (take m es) (take m vs) w) q 0 ≡ get_or (word_with es vs w) q 0
same_message zero es vs w q lq lv h = sym (unchanged_front es vs w q lq (λ j lt. h j (omega arith) lt))
same_message (suc m) [] vs w q lq lv h = refl
same_message (suc m) (e ∷ es) [] w q lq lv h = absurd (omega arith)
same_message (suc m) (e ∷ es) (v ∷ vs) w q lq lv h =
    same_message m es vs (slice_set w e (bit_xor (get_or w e 0) v)) q lq (omega arith) (λ j le lt. h (suc j) (omega arith) (omega arith))

-- a value is its weight times what its lane comes to
pub weighted_sum : (d w sum k first : ℕ) → d < 256 → sum < 256 → 0 < k → k < 256 → times w k ≡ 1 → times d k ≡ first → sum ≡ first → d ≡ times w sum
weighted_sum d w sum k first ld ls pos lk one hd hs =
    times_cancel d (times w sum) k ld (times-lt w sum) pos lk
    (hd ∙ sym hs
    ∙ sym (ap (λ (z : ℕ). times z k) (times_comm w sum) ∙ times_assoc sum w k ∙ ap (times sum) one ∙ times_one sum ls))

-- what is prepared, by lists that are the same
pub is_spaced : (distance n message : ℕ) (es places factors ws weights starts : List ℕ) (used : ℕ) (lanes : List ℕ) → places ≡ es → weights ≡ ws
    → n ≤ 48 → length es ≡ n → ArePlaces es → AreInMessage es message → AreFactors (locators_of es) factors → AreWeights (locators_of es) ws
    → AreLanes starts used distance (take message es) lanes → IsSpaced distance n message places factors weights starts used lanes
is_spaced distance n message es places factors ws weights starts used lanes ep ew few long are inside fs weighs ls = record {
  few = few;
  long = ap (λ (zs : List ℕ). length zs) ep ∙ long;
  are_places = subst ArePlaces (sym ep) are;
  in_message = subst (λ (zs : List ℕ). AreInMessage zs message) (sym ep) inside;
  have_factors = subst (λ (zs : List ℕ). AreFactors (locators_of zs) factors) (sym ep) fs;
  have_weights = subst (λ (zs : List ℕ). AreWeights (locators_of zs) weights) (sym ep) (subst (λ (us : List ℕ). AreWeights (locators_of es) us) (sym ew) weighs);
  have_lanes = subst (λ (zs : List ℕ). AreLanes starts used distance (take message zs) lanes) (sym ep) ls;
}

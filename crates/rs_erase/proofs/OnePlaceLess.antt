-- The equations of the erased places, and those with one place less.
use Rattle.std.proofs.Common.{[], List, ap, ap₂, arith, bit_xor, length, refl, suc, sym, ℕ, ◌<◌, ◌∙◌, ◌∷◌, ◌≡◌, ◌≤◌}
use Rattle.std.proofs.lemmas.Nat.{xor_of_8}
use Rattle.std.specs.Int.Bits.{xor_assoc, xor_self, xor_zero_r}
use Rattle.gf_field.proofs.Inverse.{times_cancel}
use Rattle.gf_field.proofs.Polynomial.{same_from_xor, xor_four}
use Rattle.gf_field.proofs.Times.{times-lt, times_assoc, times_comm, times_one, times_xor, times_zero, xor_times}
use Rattle.gf_field.specs.Field.{times}
use Rattle.rs_erase.specs.Code.{AreElements}
use Rattle.rs_erase.specs.Equations.{AreLocators, IsNoneOf, ValuesSolve, SumsFrom, nth_power, power_sum, remaining_syndromes, remaining_values}
use Rattle.rs_erase.proofs.Elements.{cons_elements, elements_head, elements_tail}

pub swap : (a b c : ℕ) → times a (times b c) ≡ times b (times a c)
swap a b c = sym (times_assoc a b c) ∙ ap (λ (m : ℕ). times m c) (times_comm a b) ∙ times_assoc b a c

pub xor_twice : (a c : ℕ) → bit_xor (bit_xor a c) c ≡ a
xor_twice a c = xor_assoc a c c ∙ ap (bit_xor a) (xor_self c) ∙ xor_zero_r a

pub xor_cancel : (a b c : ℕ) → bit_xor a c ≡ bit_xor b c → a ≡ b
xor_cancel a b c e = sym (xor_twice a c) ∙ ap (λ (x : ℕ). bit_xor x c) e ∙ xor_twice b c

pub power_sum_remaining_values : (y j : ℕ) (xs vs : List ℕ) → power_sum j xs (remaining_values y xs vs) ≡ bit_xor (power_sum (suc j) xs vs) (times y (power_sum j xs vs))
power_sum_remaining_values y j [] vs = sym (times_zero y)
power_sum_remaining_values y j (x ∷ xs) [] = sym (times_zero y)
power_sum_remaining_values y j (x ∷ xs) (v ∷ vs) =
    let r = nth_power x j in
    ap₂ bit_xor
    (times_assoc v (bit_xor x y) r ∙ ap (times v) (xor_times x y r) ∙ times_xor v (times x r) (times y r)
    ∙ ap (bit_xor (times v (times x r))) (swap v y r))
    (power_sum_remaining_values y j xs vs)
    ∙ xor_four (times v (times x r)) (times y (times v r)) (power_sum (suc j) xs vs) (times y (power_sum j xs vs))
    ∙ ap (bit_xor (bit_xor (times v (times x r)) (power_sum (suc j) xs vs))) (sym (times_xor y (times v r) (power_sum j xs vs)))

-- the first place has no part in a power sum that is added to the one before it times its locator
pub joined : (j x v : ℕ) (xs vs : List ℕ) → bit_xor (power_sum (suc j) (x ∷ xs) (v ∷ vs)) (times x (power_sum j (x ∷ xs) (v ∷ vs))) ≡ power_sum j xs (remaining_values x xs vs)
joined j x v xs vs =
    let r = nth_power x j in
    ap (bit_xor (bit_xor (times v (times x r)) (power_sum (suc j) xs vs))) (times_xor x (times v r) (power_sum j xs vs))
    ∙ xor_four (times v (times x r)) (power_sum (suc j) xs vs) (times x (times v r)) (times x (power_sum j xs vs))
    ∙ ap₂ bit_xor (ap (bit_xor (times v (times x r))) (swap x v r) ∙ xor_self (times v (times x r))) (sym (power_sum_remaining_values x j xs vs))

-- what solves the whole solves what is left
pub without_first : (j x v : ℕ) (xs vs s : List ℕ) → SumsFrom j (x ∷ xs) (v ∷ vs) s → SumsFrom j xs (remaining_values x xs vs) (remaining_syndromes x s)
without_first j x v xs vs [] h = tt
without_first j x v xs vs (a ∷ []) h = tt
without_first j x v xs vs (a ∷ b ∷ s) h =
    (ap₂ bit_xor h.1.0 (ap (times x) h.0) ∙ joined j x v xs vs, without_first (suc j) x v xs vs (b ∷ s) h.1)

-- and the other way round, where the first syndrome fits
pub with_first : (j x v : ℕ) (xs vs : List ℕ) (a : ℕ) (s : List ℕ) → a ≡ power_sum j (x ∷ xs) (v ∷ vs)
    → SumsFrom j xs (remaining_values x xs vs) (remaining_syndromes x (a ∷ s)) → SumsFrom j (x ∷ xs) (v ∷ vs) (a ∷ s)
with_first j x v xs vs a [] e h = (e, tt)
with_first j x v xs vs a (b ∷ s) e h =
    let m = power_sum (suc j) (x ∷ xs) (v ∷ vs) in
    let next : b ≡ m =
    xor_cancel b m (times x a) (h.0 ∙ sym (joined j x v xs vs) ∙ ap (λ (n : ℕ). bit_xor m (times x n)) (sym e)) in
    (e, with_first (suc j) x v xs vs b s next h.1)

pub length-remaining_values : (y : ℕ) (xs vs : List ℕ) → length vs ≡ length xs → length (remaining_values y xs vs) ≡ length xs
length-remaining_values y [] vs e = refl
length-remaining_values y (x ∷ xs) [] e = absurd (omega arith)
length-remaining_values y (x ∷ xs) (v ∷ vs) e = let h = length-remaining_values y xs vs (omega arith) in omega arith

pub remaining_values_elements : (y : ℕ) (xs vs : List ℕ) → AreElements (remaining_values y xs vs)
remaining_values_elements y [] vs = λ k d lt. absurd (omega arith)
remaining_values_elements y (x ∷ xs) [] = λ k d lt. absurd (omega arith)
remaining_values_elements y (x ∷ xs) (v ∷ vs) = cons_elements (times v (bit_xor x y)) (remaining_values y xs vs) (times-lt v (bit_xor x y)) (remaining_values_elements y xs vs)

-- values are known by what remains of them after a place with another locator
pub remaining_values_one : (y : ℕ) (xs vs us : List ℕ) → y < 256 → AreLocators xs → IsNoneOf y xs → length vs ≡ length xs → length us ≡ length xs
    → AreElements vs → AreElements us → remaining_values y xs vs ≡ remaining_values y xs us → vs ≡ us
remaining_values_one y [] [] [] ly lo away lv lu bv bu e = refl
remaining_values_one y [] [] (u ∷ us) ly lo away lv lu bv bu e = absurd (omega arith)
remaining_values_one y [] (v ∷ vs) us ly lo away lv lu bv bu e = absurd (omega arith)
remaining_values_one y (x ∷ xs) [] us ly lo away lv lu bv bu e = absurd (omega arith)
remaining_values_one y (x ∷ xs) (v ∷ vs) [] ly lo away lv lu bv bu e = absurd (omega arith)
remaining_values_one y (x ∷ xs) (v ∷ vs) (u ∷ us) ly lo away lv lu bv bu e =
    let d = bit_xor x y in
    let nz : d ≡ 0 → ⊥ = λ z. away.0 (same_from_xor x y z) in
    let eh : times v d ≡ times u d = cc in
    let et : remaining_values y xs vs ≡ remaining_values y xs us = cc in
    ap₂ (λ (w : ℕ) (ws : List ℕ). w ∷ ws)
    (times_cancel v u d (elements_head v vs bv) (elements_head u us bu) (omega arith) (xor_of_8 x y lo.1 ly) eh)
    (remaining_values_one y xs vs us ly lo.3 away.1 (omega arith) (omega arith) (elements_tail v vs bv) (elements_tail u us bu) et)

pub length-remaining_syndromes : (x a : ℕ) (s : List ℕ) → length (remaining_syndromes x (a ∷ s)) ≡ length s
length-remaining_syndromes x a [] = refl
length-remaining_syndromes x a (b ∷ s) = let h = length-remaining_syndromes x b s in omega arith

-- a solution of the whole gives one for the places that are left
pub rest_solves : (x v : ℕ) (xs vs s : List ℕ) → ValuesSolve (x ∷ xs) (v ∷ vs) s → ValuesSolve xs (remaining_values x xs vs) (remaining_syndromes x s)
rest_solves x v xs vs s h =
    record {
      one_each = length-remaining_values x xs vs (let e = h.one_each in omega arith);
      elements = remaining_values_elements x xs vs;
      sums = without_first 1 x v xs vs s h.sums;
    }

pub nth_power_one : (x : ℕ) → x < 256 → nth_power x 1 ≡ x
nth_power_one x lx = times_one x lx

-- there is at most one solution
pub one_solution : (xs vs us s : List ℕ) → AreLocators xs → length xs ≤ length s → ValuesSolve xs vs s → ValuesSolve xs us s → vs ≡ us
one_solution [] [] [] s lo le p q = refl
one_solution [] [] (u ∷ us) s lo le p q = absurd (let e = q.one_each in omega arith)
one_solution [] (v ∷ vs) us s lo le p q = absurd (let e = p.one_each in omega arith)
one_solution (x ∷ xs) [] us s lo le p q = absurd (let e = p.one_each in omega arith)
one_solution (x ∷ xs) (v ∷ vs) [] s lo le p q = absurd (let e = q.one_each in omega arith)
one_solution (x ∷ xs) (v ∷ vs) (u ∷ us) [] lo le p q = absurd (omega arith)
one_solution (x ∷ xs) (v ∷ vs) (u ∷ us) (a ∷ s) lo le p q =
    let pe = p.one_each in let qe = q.one_each in
    let inner : remaining_values x xs vs ≡ remaining_values x xs us =
    one_solution xs (remaining_values x xs vs) (remaining_values x xs us) (remaining_syndromes x (a ∷ s)) lo.3 (omega (arith, length-remaining_syndromes x a s))
    (rest_solves x v xs vs (a ∷ s) p) (rest_solves x u xs us (a ∷ s) q) in
    let rest : vs ≡ us =
    remaining_values_one x xs vs us lo.1 lo.3 lo.2 (omega arith) (omega arith) (elements_tail v vs p.elements) (elements_tail u us q.elements) inner in
    let both : bit_xor (times v (nth_power x 1)) (power_sum 1 xs vs) ≡ bit_xor (times u (nth_power x 1)) (power_sum 1 xs vs) =
    sym p.sums.0 ∙ q.sums.0 ∙ ap (λ (ws : List ℕ). bit_xor (times u (nth_power x 1)) (power_sum 1 xs ws)) (sym rest) in
    let one : times v (nth_power x 1) ≡ times u (nth_power x 1) = xor_cancel (times v (nth_power x 1)) (times u (nth_power x 1)) (power_sum 1 xs vs) both in
    let bare : times v x ≡ times u x = ap (times v) (sym (nth_power_one x lo.1)) ∙ one ∙ ap (times u) (nth_power_one x lo.1) in
    ap₂ (λ (w : ℕ) (ws : List ℕ). w ∷ ws)
    (times_cancel v u x (elements_head v vs p.elements) (elements_head u us q.elements) lo.0 lo.1 bare) rest

-- a solution of what is left gives one of the whole
pub whole_solves : (x v : ℕ) (xs vs : List ℕ) (a : ℕ) (s : List ℕ) → AreLocators (x ∷ xs) → length vs ≡ length xs → v < 256 → AreElements vs
    → times v x ≡ bit_xor a (power_sum 1 xs vs) → ValuesSolve xs (remaining_values x xs vs) (remaining_syndromes x (a ∷ s)) → ValuesSolve (x ∷ xs) (v ∷ vs) (a ∷ s)
whole_solves x v xs vs a s lo lv bv bvs e h =
    let head : a ≡ power_sum 1 (x ∷ xs) (v ∷ vs) =
    sym (xor_twice a (power_sum 1 xs vs)) ∙ ap (λ (n : ℕ). bit_xor n (power_sum 1 xs vs)) (sym e ∙ ap (times v) (sym (nth_power_one x lo.1))) in
    record {
      one_each = omega arith;
      elements = cons_elements v vs bv bvs;
      sums = with_first 1 x v xs vs a s head h.sums;
    }

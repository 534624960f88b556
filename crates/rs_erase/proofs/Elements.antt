-- Lists of elements.
use Rattle.std.proofs.Common.{[], List, arith, get_or, length, replicate, reverse, subst, suc, sym, zero, ℕ, ◌++◌, ◌-◌, ◌<◌, ◌∷◌}
use Rattle.std.proofs.lemmas.Grind.{get_or_default_zero}
use Rattle.std.proofs.lemmas.List.{get_or-reverse, length-reverse}
use Rattle.std.proofs.lemmas.List.Elements.{All-replicate}
use Rattle.rs_erase.specs.Code.{AreElements}

pub elements_head : (a : ℕ) (p : List ℕ) → AreElements (a ∷ p) → a < 256
elements_head a p h = h 0 0 (omega arith)

pub elements_tail : (a : ℕ) (p : List ℕ) → AreElements (a ∷ p) → AreElements p
elements_tail a p h = λ k d lt. h (suc k) d (omega arith)

pub no_elements : AreElements []
no_elements = λ k d lt. absurd (omega arith)

pub cons_elements : (a : ℕ) (s : List ℕ) → a < 256 → AreElements s → AreElements (a ∷ s)
cons_elements a s la h = go
  where
    go : (k d : ℕ) → k < length (a ∷ s) → get_or (a ∷ s) k d < 256
    go zero d lt = la
    go (suc k) d lt = h k d (omega arith)

pub elements_each : (xs : List ℕ) → ((k : ℕ) → k < length xs → get_or xs k 0 < 256) → AreElements xs
elements_each xs h = λ k d lt. let P : ℕ → Type 0 = λ n. n < 256 in subst P (sym (get_or_default_zero xs k d lt)) (h k lt)

pub elements_of : (w : List ℕ) → ((i : ℕ) → get_or w i 0 < 256) → AreElements w
elements_of w h = elements_each w (λ k lt. h k)

pub append_elements : (p q : List ℕ) → AreElements p → AreElements q → AreElements (p ++ q)
append_elements [] q hp hq = hq
append_elements (a ∷ p) q hp hq = cons_elements a (p ++ q) (elements_head a p hp) (append_elements p q (elements_tail a p hp) hq)

pub reverse_elements : (w : List ℕ) → AreElements w → AreElements (reverse w)
reverse_elements w h =
    let P : ℕ → Type 0 = λ n. n < 256 in
    elements_each (reverse w)
    (λ k lt. let lt' : k < length w = omega (arith, length-reverse w) in
    subst P (sym (get_or-reverse w k 0 lt')) (h (length w - 1 - k) 0 (omega arith)))

pub zeros_elements : (n : ℕ) → AreElements (replicate n 0)
zeros_elements n = All-replicate (λ a. a < 256) n 0 (omega arith)

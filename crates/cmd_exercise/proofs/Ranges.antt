-- Numbers from 0 on, and the same from the last one down.
use Rattle.std.proofs.Common.{◌≡◌, ℕ, zero, suc, ◌+◌, List, [], ◌∷◌, ◌++◌, ◌∙◌, ap, arith}
use Rattle.std.specs.Prelude.{reverse}
use Rattle.std.specs.List.{flat_map, range_with_len}
use Rattle.std.proofs.lemmas.List.{reverse-append, append-nil}
use Rattle.std.proofs.lemmas.List.Concat.{flat_map-cons}
use Rattle.std.proofs.lemmas.Grind.{flat_map-append}

range_more : (a n : ℕ) → range_with_len a (suc n) ≡ range_with_len a n ++ (a + n) ∷ []
range_more a zero = let same : a ≡ a + 0 = omega arith in ap (λ k. k ∷ []) same
range_more a (suc n) = ap (λ xs. a ∷ xs) (range_more (a + 1) n ∙ (let same : a + 1 + n ≡ a + suc n = omega arith in ap (λ k. range_with_len (a + 1) n ++ k ∷ []) same))

numbers_more : (n : ℕ) → range_with_len 0 (n + 1) ≡ range_with_len 0 n ++ n ∷ []
numbers_more n =
    let next : n + 1 ≡ suc n = omega arith in
    let last : 0 + n ≡ n = omega arith in
    ap (range_with_len 0) next ∙ range_more 0 n ∙ ap (λ k. range_with_len 0 n ++ k ∷ []) last

-- one more at the end
pub forward_more : {X : Type 0} (f : ℕ → List X) (n : ℕ) → flat_map f (range_with_len 0 (n + 1)) ≡ flat_map f (range_with_len 0 n) ++ f n
forward_more f n =
    ap (flat_map f) (numbers_more n) ∙ flat_map-append f (range_with_len 0 n) (n ∷ []) ∙ ap (λ xs. flat_map f (range_with_len 0 n) ++ xs) (append-nil (f n))

-- the last one first
pub back_more : {X : Type 0} (f : ℕ → List X) (n : ℕ) → flat_map f (reverse (range_with_len 0 (n + 1))) ≡ f n ++ flat_map f (reverse (range_with_len 0 n))
back_more f n =
    ap (λ xs. flat_map f (reverse xs)) (numbers_more n) ∙ ap (flat_map f) (reverse-append (range_with_len 0 n) (n ∷ [])) ∙ flat_map-cons f n (reverse (range_with_len 0 n))

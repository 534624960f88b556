-- The last element of a list that passes a test.
use Rattle.std.proofs.Common.{◌≡◌, ◌≤◌, ◌-◌, ℕ, suc, Bool, true, List, [], ◌∷◌, ◌++◌, length, take, get_or, filter, slice_get, All, IfSome, Option, Some, None, refl, sym, ap, ◌∙◌, arith}
use Rattle.std.specs.List.{last_or}
use Rattle.std.proofs.lemmas.Bool.{cond-true}
use Rattle.std.proofs.lemmas.List.{length-take, length-take-le, get_or-take}
use Rattle.std.proofs.lemmas.List.Elements.{filter-append, All-filter, All-head, All-tail}
use Rattle.std.proofs.lemmas.Option.{slice_get-get_or}
use Rattle.std.proofs.Math.Seq.{take-suc, take-length}

last_behind : {X : Type 0} (o : Option X) (xs : List X) (x : X) → last_or o (xs ++ x ∷ []) ≡ Some x
last_behind o [] x = refl
last_behind o (y ∷ xs) x = last_behind (Some y) xs x

last_passes : {X : Type 0} (p : X → Bool) (xs : List X) (x : X) → p x ≡ true → last_or None (filter p (xs ++ x ∷ [])) ≡ Some x
last_passes p xs x passes =
    ap (λ l. last_or None l) (filter-append p xs (x ∷ []) ∙ ap (λ l. filter p xs ++ l) (cond-true (p x) (x ∷ []) [] passes))
    ∙ last_behind None (filter p xs) x

-- where the last of some first elements passes, it is the last that passes
pub is_last : {X : Type 0} (p : X → Bool) (all left : List X) (x : X) (found : Option X) → left ≡ take (length left) all → 1 ≤ length left
    → x ≡ get_or left (length left - 1) x → p x ≡ true → last_or None (filter p left) ≡ found
    → slice_get all (length (take (length left - 1) left)) ≡ found
is_last p all left x found front some is passes whole =
    let k : ℕ = length left - 1 in
    let next : suc k ≡ length left = omega (arith, some) in
    let within : length left ≤ length all = omega (arith, ap length front, length-take (length left) all) in
    let count : length (take k left) ≡ k = length-take-le k left (omega (arith, next)) in
    let split : left ≡ take k left ++ x ∷ [] =
    sym (take-length left) ∙ ap (λ n. take n left) (sym next) ∙ take-suc left k x (omega (arith, next)) ∙ ap (λ y. take k left ++ y ∷ []) (sym is) in
    let same : get_or all k x ≡ x = sym (get_or-take (length left) all k x (omega (arith, next))) ∙ ap (λ l. get_or l k x) (sym front) ∙ sym is in
    ap (λ n. slice_get all n) count
    ∙ slice_get-get_or all k x (omega (arith, next, within))
    ∙ ap (λ y. Some y) same
    ∙ sym (last_passes p (take k left) x passes)
    ∙ ap (λ l. last_or None (filter p l)) (sym split)
    ∙ whole

-- what holds of each element holds of the last
pub last_has : {X : Type 0} (P : X → Type 0) (o : Option X) (xs : List X) → IfSome o P → All P xs → IfSome (last_or o xs) P
last_has P o [] of all = of
last_has P o (x ∷ xs) of all = last_has P (Some x) xs (All-head P x xs all) (All-tail P x xs all)

pub last_passing_has : {X : Type 0} (p : X → Bool) (P : X → Type 0) (xs : List X) → All P xs → IfSome (last_or None (filter p xs)) P
last_passing_has p P xs all = last_has P None (filter p xs) tt (All-filter p P xs all)

-- there is a last one
pub some_last : {X : Type 0} (x : X) (xs : List X) → last_or (Some x) xs ≡ None → ⊥
some_last x [] none = absurd cc
some_last x (y ∷ xs) none = some_last y xs none

-- Lists whose elements go over to jobs, one after another.
use Rattle.std.proofs.Common.{◌≡◌, ℕ, suc, List, [], ◌∷◌, ◌++◌, length, take, drop, map, All, sym, ◌∙◌, ap, arith}
use Rattle.std.proofs.lemmas.List.{take_at}

-- the first one stands behind those of the jobs so far
pub moved : {X Y : Type 0} (f : X → Y) (xs : List X) (x : X) (y : Y) (ys zs : List Y) → f x ≡ y → zs ≡ y ∷ ys → map f (xs ++ x ∷ []) ++ ys ≡ map f xs ++ zs
moved f [] x y ys zs is rest = ap (λ z. z ∷ ys) is ∙ sym rest
moved f (w ∷ xs) x y ys zs is rest = ap (λ l. f w ∷ l) (moved f xs x y ys zs is rest)

-- what holds of the first one, and of the others
pub all_first : {X : Type 0} (P : X → Type 0) (x : X) (xs : List X) → All P (x ∷ xs) → P x
all_first P x xs all = all 0 x (omega arith)

pub all_left : {X : Type 0} (P : X → Type 0) (x : X) (xs : List X) → All P (x ∷ xs) → All P xs
all_left P x xs all k d within = all (suc k) d (omega (arith, within))

-- what a vector holds after its slice was lent
pub written_back : {X : Type 0} (n : ℕ) (xs ys zs : List X) → n ≡ length xs → zs ≡ take n (xs ++ drop (length xs) ys) → zs ≡ xs
written_back n xs ys zs size is = is ∙ take_at xs (drop (length xs) ys) n (sym size)

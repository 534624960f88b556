-- What stands at the places of a list.
use Rattle.std.proofs.Common.{ℕ, zero, suc, ◌≡◌, ◌<◌, List, [], ◌∷◌, map, length, slice_get, Some, None, refl, arith}

some_is : {X : Type 0} (a b : X) → Some a ≡ Some b → a ≡ b
some_is a b same = cc

-- what stands at a place of a list that was mapped
pub mapped_at : {X Y : Type 0} (f : X → Y) (xs : List X) (k : ℕ) (y : Y) → slice_get (map f xs) k ≡ Some y → (x : X) × (slice_get xs k ≡ Some x) × (f x ≡ y)
mapped_at f [] k y is = absurd (let e : None ≡ Some y = is in cc)
mapped_at f (x ∷ xs) zero y is = (x, refl, some_is (f x) y is)
mapped_at f (x ∷ xs) (suc k) y is = mapped_at f xs k y is

pub map_at : {X Y : Type 0} (f : X → Y) (xs : List X) (k : ℕ) (x : X) → slice_get xs k ≡ Some x → slice_get (map f xs) k ≡ Some (f x)
map_at f [] k x is = absurd (let e : None ≡ Some x = is in cc)
map_at f (y ∷ xs) zero x is = let same : y ≡ x = some_is y x is in cc
map_at f (y ∷ xs) (suc k) x is = map_at f xs k x is

-- at each place within a list something stands
pub there_at : {X : Type 0} (xs : List X) (k : ℕ) → k < length xs → (x : X) × (slice_get xs k ≡ Some x)
there_at [] k within = absurd (omega (arith, within))
there_at (x ∷ xs) zero within = (x, refl)
there_at (x ∷ xs) (suc k) within = there_at xs k (omega (arith, within))

pub length_mapped : {X Y : Type 0} (f : X → Y) (xs : List X) → length (map f xs) ≡ length xs
length_mapped f [] = refl
length_mapped f (x ∷ xs) = omega (arith, length_mapped f xs)

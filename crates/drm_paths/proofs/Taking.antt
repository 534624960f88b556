-- A path takes a datagram more.
use Rattle.std.proofs.Common.{◌≡◌, ℕ, ◌+◌, List, [], ◌∷◌, ◌++◌, map, length, refl, ◌∙◌, ap, arith}
use Rattle.drm_paths.specs.State.{bytes_in}

bytes_more : (ds : List (List ℕ)) (d : List ℕ) → bytes_in (ds ++ d ∷ []) ≡ bytes_in ds + length d
bytes_more [] d = omega arith
bytes_more (e ∷ ds) d = let more : bytes_in (ds ++ d ∷ []) ≡ bytes_in ds + length d = bytes_more ds d in omega (arith, more)

pub map_more : {X : Type 0} (f : X → List ℕ) (xs : List X) (x : X) → map f (xs ++ x ∷ []) ≡ map f xs ++ f x ∷ []
map_more f [] x = refl
map_more f (y ∷ xs) x = ap (λ l. f y ∷ l) (map_more f xs x)

-- the bytes of what it takes then
pub bytes_then : {X : Type 0} (f : X → List ℕ) (xs : List X) (x : X) → bytes_in (map f (xs ++ x ∷ [])) ≡ bytes_in (map f xs) + length (f x)
bytes_then f xs x = ap bytes_in (map_more f xs x) ∙ bytes_more (map f xs) (f x)

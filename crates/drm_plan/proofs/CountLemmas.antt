-- What all values of a list have.
use Rattle.std.proofs.Common.{List, [], ◌∷◌}
use Rattle.std.specs.Prelude.{All, map}
use Rattle.std.proofs.lemmas.List.Elements.{All-nil, All-cons, All-head, All-tail}

-- what all values of a list have
pub all_unmapped : {X Y : Type 0} (P : Y → Type 0) (f : X → Y) (xs : List X) → All P (map f xs) → All (λ x. P (f x)) xs
all_unmapped P f [] all = All-nil (λ x. P (f x))
all_unmapped P f (x ∷ xs) all = All-cons (λ z. P (f z)) x xs (All-head P (f x) (map f xs) all) (all_unmapped P f xs (All-tail P (f x) (map f xs) all))

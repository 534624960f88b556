-- Packing in parts.
use Rattle.std.proofs.Common.{◌≡◌, ◌<◌, ◌+◌, ℕ, List, [], ◌∷◌, ◌++◌, length, take, set, map, Bool, Option, None, Some, is_some, option_map, refl, ap, sym, ◌∙◌}
use Rattle.std.proofs.lemmas.List.{take_more_set}
use Rattle.std.proofs.lemmas.List.FromFn.{map-range_with_len_more}
use Rattle.std.specs.List.{range_with_len}
use Rattle.plan_packing.specs.declared.packing.Spot.{Spot}
use Rattle.plan_packing.specs.Packing.{chain, placed, packed, last_spot, front}

-- some sizes, and then others
pub last_spot-append : (free : List ℕ) (spot : Spot) (xs ys : List ℕ) → last_spot free spot (xs ++ ys) ≡ chain (last_spot free spot xs) (λ s. last_spot free s ys)
last_spot-append free spot [] ys = refl
last_spot-append free spot (x ∷ xs) ys = go (placed free spot x) (λ s. last_spot-append free s xs ys)
  where
    go : (o : Option Spot) → ((s : Spot) → last_spot free s (xs ++ ys) ≡ chain (last_spot free s xs) (λ t. last_spot free t ys))
        → chain o (λ s. last_spot free s (xs ++ ys)) ≡ chain (chain o (λ s. last_spot free s xs)) (λ t. last_spot free t ys)
    go None rest = refl
    go (Some s) rest = rest s

is_some-map : (f : List ℕ → List ℕ) (o : Option (List ℕ)) → is_some (option_map f o) ≡ is_some o
is_some-map f None = refl
is_some-map f (Some x) = refl

-- all can be packed where the last can
pub last_is_packed : (free : List ℕ) (spot : Spot) (sizes : List ℕ) → is_some (packed free spot sizes) ≡ is_some (last_spot free spot sizes)
last_is_packed free spot [] = refl
last_is_packed free spot (size ∷ sizes) = go (placed free spot size) (λ s. last_is_packed free s sizes)
  where
    go : (o : Option Spot) → ((s : Spot) → is_some (packed free s sizes) ≡ is_some (last_spot free s sizes))
        → is_some (chain o (λ s. option_map (λ frames. s.frame ∷ frames) (packed free s sizes))) ≡ is_some (chain o (λ s. last_spot free s sizes))
    go None rest = refl
    go (Some s) rest = is_some-map (λ frames. s.frame ∷ frames) (packed free s sizes) ∙ rest s

-- the first sizes can be packed, and the others behind them
pub goes_on : (free : List ℕ) (spot next : Spot) (xs ys : List ℕ) (first last : Option Spot) → first ≡ last_spot free spot xs → first ≡ Some next → last ≡ last_spot free next ys → last ≡ last_spot free spot (xs ++ ys)
goes_on free spot next xs ys first last is some behind =
    behind ∙ (ap (λ (o : Option Spot). chain o (λ s. last_spot free s ys)) (sym some ∙ is) ∙ sym (last_spot-append free spot xs ys))

-- the first sizes can't be packed
pub stops : (free : List ℕ) (spot : Spot) (xs ys : List ℕ) (first last : Option Spot) → first ≡ last_spot free spot xs → first ≡ None → last ≡ None → last ≡ last_spot free spot (xs ++ ys)
stops free spot xs ys first last is none end =
    end ∙ (ap (λ (o : Option Spot). chain o (λ s. last_spot free s ys)) (sym none ∙ is) ∙ sym (last_spot-append free spot xs ys))

-- what the free bytes of a countdown are, with those of one super frame more
pub one_more : (free : List ℕ) (f : ℕ → ℕ) (first i x : ℕ) → i < length free → take i free ≡ map f (range_with_len first i) → x ≡ f (first + i) → take (i + 1) (set free i x) ≡ map f (range_with_len first (i + 1))
one_more free f first i x within before is =
    take_more_set free i x within ∙ (ap (λ (l : List ℕ). l ++ x ∷ []) before ∙ (ap (λ n. map f (range_with_len first i) ++ n ∷ []) is ∙ sym (map-range_with_len_more f first i (first + i) refl)))

-- a test of the last spot is one of them all
pub tests_all : (free same sizes : List ℕ) (spot : Option Spot) (b : Bool) → b ≡ is_some spot → spot ≡ last_spot free front sizes → free ≡ same → b ≡ is_some (packed same front sizes)
tests_all free same sizes spot b test last is =
    test ∙ (ap (λ (o : Option Spot). is_some o) last ∙ (ap (λ (l : List ℕ). is_some (last_spot l front sizes)) is ∙ sym (last_is_packed same front sizes)))

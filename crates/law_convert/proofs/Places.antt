-- Places in lists, and how far a collector counts.
use Rattle.std.proofs.Common.{ℕ, zero, suc, ◌≡◌, ◌+◌, ◌<◌, List, [], ◌∷◌, ◌++◌, length, take, slice_get, Some, refl, ap, arith}
use Rattle.dcp_collect.specs.CollectorState.{CollectorState, after_item}
use Rattle.dcp_collect.specs.Runs.{CollectorItem}
use Rattle.law_collect.specs.Laws.{GivesSoFar}

pub at_place : {X : Type 0} (xs ys : List X) (y : X) → slice_get (xs ++ y ∷ ys) (length xs) ≡ Some y
at_place [] ys y = refl
at_place (x ∷ xs) ys y = at_place xs ys y

pub in_front : {X : Type 0} (n k : ℕ) (xs : List X) → k < n → slice_get (take n xs) k ≡ slice_get xs k
in_front zero k xs below = absurd (omega (arith, below))
in_front (suc n) k [] below = refl
in_front (suc n) zero (x ∷ xs) below = refl
in_front (suc n) (suc k) (x ∷ xs) below = in_front n k xs (omega (arith, below))

-- it counts on, and its end stays
pub given_on : (more : List CollectorItem) (c d : CollectorState) → GivesSoFar c more d → (d.next ≡ c.next + length more) × (d.end ≡ c.end)
given_on [] c d given = (omega (arith, ap (λ s. s.next) given), ap (λ s. s.end) given)
given_on (item ∷ more) c d (idle, is, given) =
    let (next, end) = given_on more (after_item c) d given in (omega (arith, next), end)

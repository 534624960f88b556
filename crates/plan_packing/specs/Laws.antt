-- The packing that is found is the one that there is.
use Rattle.std.specs.Prelude.{ℕ, ◌≡◌, ◌↔◌, List, IsTrue, None, Some}
use Rattle.plan_packing.specs.Packing.{packed, front, can_be_packed}
use Rattle.plan_packing.specs.Relation.{IsPacking}

-- the frames that are found are a packing, and so are no others
abbrev pub FindsThePacking : Type 0
FindsThePacking = (free sizes frames : List ℕ) → (packed free front sizes ≡ Some frames) ↔ IsPacking free sizes frames

-- none is found exactly where there is none
abbrev pub FindsNone : Type 0
FindsNone = (free sizes : List ℕ) → (packed free front sizes ≡ None) ↔ ((frames : List ℕ) → ¬ IsPacking free sizes frames)

-- the test is whether there is one
abbrev pub TestsForAPacking : Type 0
TestsForAPacking = (free sizes : List ℕ) → IsTrue (can_be_packed free sizes) ↔ ((frames : List ℕ) × IsPacking free sizes frames)

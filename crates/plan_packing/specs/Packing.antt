-- How the entities of an announcement are packed into super frames, by their sizes: each in turn goes into the first
-- super frame, not before that of the one before it, whose free bytes hold it.
use Rattle.std.specs.Prelude.{ℕ, ◌+◌, nat_le, Bool, if◌then◌else◌, List, [], ◌∷◌, drop, is_some, option_map, Option, Some, None}
use Rattle.plan_packing.specs.declared.packing.Spot.{Spot}

-- where a size goes of which so many bytes of the first of these super frames, which has this number, are taken
abbrev pub first_that_holds : ℕ → ℕ → ℕ → List ℕ → Option Spot
first_that_holds size frame taken [] = None
first_that_holds size frame taken (free ∷ more) =
    if nat_le (taken + size) free then Some (record { frame = frame; taken = taken + size }) else first_that_holds size (frame + 1) 0 more

-- where a size goes behind what is packed up to a spot
abbrev pub placed : List ℕ → Spot → ℕ → Option Spot
placed free spot size = first_that_holds size spot.frame spot.taken (drop spot.frame free)

abbrev pub chain : {X Y : Type 0} → Option X → (X → Option Y) → Option Y
chain None next = None
chain (Some x) next = next x

-- the super frame of each size in turn; None where not all of them can be packed
abbrev pub packed : List ℕ → Spot → List ℕ → Option (List ℕ)
packed free spot [] = Some []
packed free spot (size ∷ sizes) = chain (placed free spot size) (λ next. option_map (λ frames. next.frame ∷ frames) (packed free next sizes))

-- where the last of them stands
abbrev pub last_spot : List ℕ → Spot → List ℕ → Option Spot
last_spot free spot [] = Some spot
last_spot free spot (size ∷ sizes) = chain (placed free spot size) (λ next. last_spot free next sizes)

-- nothing is packed yet
abbrev pub front : Spot
front = record { frame = 0; taken = 0 }

abbrev pub can_be_packed : List ℕ → List ℕ → Bool
can_be_packed free sizes = is_some (packed free front sizes)

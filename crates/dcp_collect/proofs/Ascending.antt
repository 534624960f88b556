-- Fragments whose indices rise.
use Rattle.std.specs.Prelude.{◌<◌, List, [], ◌∷◌}
use Rattle.std.specs.List.{AllByRecursion}
use Rattle.dcp_collect.specs.Fragments.{NumberedFragment}

-- the indices rise
abbrev pub IsAscending : List NumberedFragment → Type 0
IsAscending [] = Unit {0}
IsAscending (f ∷ fs) = AllByRecursion (λ g. f.head.index < g.head.index) fs × IsAscending fs

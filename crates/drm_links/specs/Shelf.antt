-- What a shelf tells.
use Rattle.std.specs.Prelude.{ℕ, ◌≡◌, ◌<◌, ◌≤◌, ◌⊎◌, ◌+◌, List, [], ◌∷◌, ◌++◌, length, Contains, nat_eq, nat_lt, Option, None, Some, IsNone, MatchOption, if◌then◌else◌}
use Rattle.std.specs.List.{list_any}
use Rattle.std.specs.Ordering.{nat_cmp}
use Rattle.std.specs.Cmp.Lexicographic.{slice_cmp}
use Rattle.std.specs.FinMap as map
use Rattle.drm_links.specs.Known.{Known, KnownThrough}
use Rattle.drm_links.specs.declared.shelf.Loaded.{Loaded}
use Rattle.drm_links.specs.declared.shelf.Loaded.TheVariants.{Bytes, TooLong, Failed, NoMemory}

-- the files by their names, the number of loads so far, the names that they asked for, in order, and the numbers of the
-- loads, from 0, that are to fail
pub record Files : Type 0 where
  pub files : map.FinMap (slice_cmp nat_cmp) (List ℕ)
  pub loads : ℕ
  pub names : List (List ℕ)
  pub failing : List ℕ

-- the file of this name
abbrev pub file_at : Files → List ℕ → Option (List ℕ)
file_at contents name = map.get contents.files name

-- What a load gives of the file, if there is one: it is too long exactly where the file is longer than the limit, and
-- else it gives the file. Memory may run out instead.
abbrev pub LoadGives : Loaded → ℕ → Option (List ℕ) → Type 0
LoadGives (Bytes octets) limit file = (file ≡ Some octets) × (length octets ≤ limit)
LoadGives TooLong limit file = MatchOption file ⊥ (λ bytes. limit < length bytes)
LoadGives Failed limit file = IsNone file
LoadGives NoMemory limit file = Unit {0}

-- The load fails exactly where its number is to fail or there is no such file; else it gives the file within the limit.
abbrev pub ShelfLoads : Loaded → List ℕ → ℕ → Files → Type 0
ShelfLoads (Bytes octets) name limit contents = (Contains contents.failing contents.loads → ⊥) × LoadGives (Bytes octets) limit (file_at contents name)
ShelfLoads TooLong name limit contents = (Contains contents.failing contents.loads → ⊥) × LoadGives TooLong limit (file_at contents name)
ShelfLoads Failed name limit contents = Contains contents.failing contents.loads ⊎ LoadGives Failed limit (file_at contents name)
ShelfLoads NoMemory name limit contents = Unit {0}

-- a file that is there, within a limit
abbrev pub within : ℕ → Option (List ℕ) → Loaded
within limit None = Failed
within limit (Some file) = if nat_lt limit (length file) then TooLong else Bytes file

-- what the next load gives, unless memory runs out
abbrev pub load_of : Files → List ℕ → ℕ → Loaded
load_of contents name limit = if list_any (nat_eq contents.loads) contents.failing then Failed else within limit (file_at contents name)

-- a file that is given has at most limit bytes
abbrev pub IsFileWithin : Loaded → ℕ → Type 0
IsFileWithin (Bytes octets) limit = length octets ≤ limit
IsFileWithin TooLong limit = Unit {0}
IsFileWithin Failed limit = Unit {0}
IsFileWithin NoMemory limit = Unit {0}

-- the names that were asked for, after a load of this name; where memory ran out it isn't among them
abbrev pub names_after : Loaded → List ℕ → List (List ℕ) → List (List ℕ)
names_after (Bytes octets) name names = names ++ name ∷ []
names_after TooLong name names = names ++ name ∷ []
names_after Failed name names = names ++ name ∷ []
names_after NoMemory name names = names

-- A load leaves the files and the list of failing loads as they are, and tells which name it asked for.
pub record KeepsFiles (loaded : Loaded) (name : List ℕ) (before after : Files) : Type 0 where
  pub files : after.files ≡ before.files
  pub failing : after.failing ≡ before.failing
  pub names : after.names ≡ names_after loaded name before.names

-- the shelf after a load with this answer
abbrev pub after_load : Loaded → List ℕ → Files → Files
after_load loaded name contents = record contents { loads = contents.loads + 1; names = names_after loaded name contents.names }

-- the shelf after loads of these names, for none of which memory ran out
abbrev pub after_loads : List (List ℕ) → Files → Files
after_loads names contents = record contents { loads = contents.loads + length names; names = contents.names ++ names }

-- Where a shelf tells at the end, it told before, and P holds of what was told before and is told then.
abbrev pub ShelfSupplies : Known Files → Known Files → (Files → Files → Type 0) → Type 0
ShelfSupplies before after P = KnownThrough before after P

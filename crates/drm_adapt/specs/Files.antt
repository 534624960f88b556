-- What a load gives of a file whose bytes are known.
use Rattle.std.specs.Prelude.{ℕ, ◌≡◌, ◌<◌, List, length}
use Rattle.drm_links.specs.declared.shelf.Loaded.{Loaded}
use Rattle.drm_links.specs.declared.shelf.Loaded.TheVariants.{Bytes, TooLong, Failed, NoMemory}

-- The file is given whole; it is too long only where it has more than limit bytes. A read may fail, and memory may run
-- out.
abbrev pub HoldsFile : Loaded → ℕ → List ℕ → Type 0
HoldsFile (Bytes octets) limit file = octets ≡ file
HoldsFile TooLong limit file = limit < length file
HoldsFile Failed limit file = Unit {0}
HoldsFile NoMemory limit file = Unit {0}

-- a copy of these bytes, unless memory ran out
abbrev pub IsCopy : Loaded → List ℕ → Type 0
IsCopy (Bytes octets) bytes = octets ≡ bytes
IsCopy TooLong bytes = ⊥
IsCopy Failed bytes = ⊥
IsCopy NoMemory bytes = Unit {0}

-- The datagrams of a packet: itself, or its fragments (TS 102 821).
use Rattle.std.specs.Prelude.{ℕ, ◌≡◌, ◌<◌, List, length, Option, None, Some, slice_index_or}
use Rattle.dcp_pft.specs.declared.shape.Shape.{Shape}
use Rattle.dcp_pft.specs.Head.{IsFragmentOf}

-- datagram i of a packet with this sequence number that is carried whole, or cut in this shape
abbrev pub IsDatagramOf : Option Shape → ℕ → List ℕ → ℕ → List ℕ → Type 0
IsDatagramOf None sequence packet i datagram = datagram ≡ packet
IsDatagramOf (Some shape) sequence packet i datagram = IsFragmentOf shape sequence packet i datagram

-- how many there are
abbrev pub count_of : Option Shape → ℕ
count_of None = 1
count_of (Some shape) = shape.count

-- the first datagrams of a packet
abbrev pub AreFirst : Option Shape → ℕ → List ℕ → List (List ℕ) → Type 0
AreFirst cut sequence packet datagrams =
    (i : ℕ) (none : List ℕ) → i < length datagrams → IsDatagramOf cut sequence packet i (slice_index_or datagrams i none)

-- all of them
abbrev pub AreAll : Option Shape → ℕ → List ℕ → List (List ℕ) → Type 0
AreAll cut sequence packet datagrams = AreFirst cut sequence packet datagrams × (length datagrams ≡ count_of cut)

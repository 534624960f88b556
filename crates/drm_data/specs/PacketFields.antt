-- Data packets: one byte of head, a data field of d bytes, and a check value in two (this project's own profile).
use Rattle.std.specs.Prelude.{ℕ, ◌≡◌, ◌+◌, ◌*◌, ◌<◌, nat_lt, Bool, if◌then◌else◌, List, ◌∷◌, ◌++◌, length}
use Rattle.std.specs.Int.{w16, to_be_bytes, from_bool}
use Rattle.drm_bits.specs.Crc.{IsCheckOf}

-- what a packet says: whether it is the first and the last one of its unit, its packet id, its continuity, and its useful bytes
pub record PacketFields : Type 0 where
  pub first : Bool
  pub last : Bool
  pub id : ℕ
  pub continuity : ℕ
  pub useful : List ℕ

-- the useful bytes don't fill the data field
abbrev pub is_padded : ℕ → PacketFields → Bool
is_padded d p = nat_lt (length p.useful) d

-- the first byte: first in one bit, last in one, the packet id in two, padded in one, the continuity in three
abbrev pub head : ℕ → PacketFields → ℕ
head d p =
    128 * from_bool p.first + 64 * from_bool p.last + 16 * p.id + 8 * from_bool (is_padded d p) + p.continuity

-- The data field: the useful bytes, where they fill it; else their number in one byte, they, and a rest that isn't read.
abbrev pub data_field : ℕ → List ℕ → List ℕ → List ℕ
data_field d useful rest = if nat_lt (length useful) d then length useful ∷ useful ++ rest else useful

-- what stands before the check value
abbrev pub front : ℕ → PacketFields → List ℕ → List ℕ
front d p rest = head d p ∷ data_field d p.useful rest

-- the bytes are the packet with this rest, and the check value of all before it
pub record SpellsDataPacket (d : ℕ) (p : PacketFields) (rest : List ℕ) (check : ℕ) (bytes : List ℕ) : Type 0 where
  pub id : p.id < 4
  pub continuity : p.continuity < 8
  pub size : length (data_field d p.useful rest) ≡ d
  pub spelled : bytes ≡ front d p rest ++ to_be_bytes w16 check
  pub checked : IsCheckOf (front d p rest) check

-- the bytes are this packet
abbrev pub IsPacket : ℕ → PacketFields → List ℕ → Type 0
IsPacket d p bytes = (rest : List ℕ) × (check : ℕ) × SpellsDataPacket d p rest check bytes

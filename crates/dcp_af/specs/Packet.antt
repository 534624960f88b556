-- AF packets (TS 102 821).
use Rattle.std.specs.Prelude.{ℕ, ◌≡◌, ◌+◌, ◌*◌, ◌^◌, ◌<◌, Bool, true, List, [], ◌∷◌, ◌++◌, length}
use Rattle.std.specs.Int.{w16, w32, to_be_bytes, from_bool}
use Rattle.drm_bits.specs.Crc.{IsCheckOf}

-- what an AF packet says: its sequence number, whether its check value counts, the minor revision, and the payload
pub record AfPacket : Type 0 where
  pub seq : ℕ
  pub checked : Bool
  pub minor : ℕ
  pub payload : List ℕ

-- AF
abbrev pub sync : List ℕ
sync = 65 ∷ 70 ∷ []

-- T, the type of a payload of TAG items
abbrev pub tag_kind : ℕ
tag_kind = 84

-- one byte: whether the check value counts in one bit, the major revision in three, the minor revision in four
abbrev pub revision : Bool → ℕ → ℕ → ℕ
revision checked major minor = 128 * from_bool checked + 16 * major + minor

-- the head: AF, the length of the payload in four bytes, the sequence number in two, the revision, here 1, and the type
abbrev pub head : AfPacket → List ℕ
head p = sync ++ to_be_bytes w32 (length p.payload) ++ to_be_bytes w16 p.seq ++ revision p.checked 1 p.minor ∷ tag_kind ∷ []

-- what has a head
pub record FitsPacket (p : AfPacket) : Type 0 where
  pub seq : p.seq < 2 ^ 16
  pub minor : p.minor < 2 ^ 4
  pub payload : length p.payload < 2 ^ 32

-- the bytes are the packet's head and payload, and then this number in two bytes
pub record EndsWith (p : AfPacket) (check : ℕ) (bytes : List ℕ) : Type 0 where
  pub fits : FitsPacket p
  pub narrow : check < 2 ^ 16
  pub spelled : bytes ≡ head p ++ p.payload ++ to_be_bytes w16 check

-- The bytes are this packet. Where the check value doesn't count, the last two bytes are free.
abbrev pub IsAf : AfPacket → List ℕ → Type 0
IsAf p bytes = (check : ℕ) × EndsWith p check bytes × (p.checked ≡ true → IsCheckOf (head p ++ p.payload) check)

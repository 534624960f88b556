-- What a packer writes.
use Rattle.std.specs.Prelude.{ℕ, ◌-◌, ◌<◌, ◌≤◌, List, length, replicate}
use Rattle.drm_data.specs.PacketFields.{PacketFields, SpellsDataPacket}
use Rattle.drm_data.specs.Units.{next_continuity}

-- the bytes are this packet, with zeros in what isn't read
abbrev pub IsWrittenPacket : ℕ → PacketFields → List ℕ → Type 0
IsWrittenPacket d p bytes = (check : ℕ) × SpellsDataPacket d p (replicate (d - 1 - length p.useful) 0) check bytes

-- a packet that has a spelling
pub record FitsDataPacket (d : ℕ) (p : PacketFields) : Type 0 where
  pub id : p.id < 4
  pub continuity : p.continuity < 8
  pub useful : length p.useful ≤ d

-- a packer: its packet id, its data length, and the continuity of its next packet
pub record Packing : Type 0 where
  pub id : ℕ
  pub length : ℕ
  pub continuity : ℕ

abbrev pub new_packer : ℕ → ℕ → Packing
new_packer id d = record { id = id; length = d; continuity = 0 }

-- after one packet
abbrev pub after_packet : Packing → Packing
after_packet p = record p { continuity = next_continuity p.continuity }

-- Units as the bytes of their packets.
use Rattle.std.specs.Prelude.{ℕ, ◌≡◌, ◌+◌, ◌%◌, List, [], ◌∷◌, ◌++◌, length}
use Rattle.drm_data.specs.PacketFields.{PacketFields}
use Rattle.drm_data.specs.Units.{packets, packet_count}
use Rattle.drm_data.specs.Writing.{IsWrittenPacket, Packing}

-- the bytes of packets one after another
abbrev pub AreWritten : ℕ → List PacketFields → List ℕ → Type 0
AreWritten d [] text = text ≡ []
AreWritten d (p ∷ ps) text = (bytes : List ℕ) × (more : List ℕ) × IsWrittenPacket d p bytes × AreWritten d ps more × (text ≡ bytes ++ more)

-- the bytes of the packets of units, under this packet id and data length
abbrev pub ArePacked : ℕ → ℕ → List (List ℕ) → List ℕ → Type 0
ArePacked id d units text = AreWritten d (packets id d units) text

-- a packer behind the packets of a unit
abbrev pub after_unit : Packing → List ℕ → Packing
after_unit p unit = record p { continuity = (p.continuity + packet_count p.length (length unit)) % 8 }

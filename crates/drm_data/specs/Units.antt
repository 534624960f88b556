-- Units, and the packets that they are sent in.
use Rattle.std.specs.Prelude.{ℕ, zero, suc, ◌+◌, ◌-◌, ◌*◌, ◌/◌, ◌%◌, ◌==◌, nat_le, List, [], ◌∷◌, ◌++◌, length, take, drop}
use Rattle.drm_data.specs.PacketFields.{PacketFields}

-- the most bytes of a unit
abbrev pub most_unit : ℕ
most_unit = 65535

-- the continuity of the packet behind one with this continuity
abbrev pub next_continuity : ℕ → ℕ
next_continuity continuity = (continuity + 1) % 8

-- packet k of a unit under packet id and data length d: d bytes of the unit, or in the last packet those that are left
abbrev pub unit_packet : ℕ → ℕ → ℕ → List ℕ → ℕ → PacketFields
unit_packet id d continuity unit k =
    record {
      first = k == 0;
      last = nat_le (length unit) (k * d + d);
      id = id;
      continuity = continuity;
      useful = take d (drop (k * d) unit);
    }

-- a unit of so many bytes has so many packets: by d, rounded up
abbrev pub packet_count : ℕ → ℕ → ℕ
packet_count d bytes = (bytes + (d - 1)) / d

-- n packets of a unit from packet k on, the first of them with this continuity
abbrev pub packets_from : ℕ → ℕ → ℕ → List ℕ → ℕ → ℕ → List PacketFields
packets_from id d continuity unit k zero = []
packets_from id d continuity unit k (suc n) =
    unit_packet id d continuity unit k ∷ packets_from id d (next_continuity continuity) unit (k + 1) n

abbrev pub unit_packets : ℕ → ℕ → ℕ → List ℕ → List PacketFields
unit_packets id d continuity unit = packets_from id d continuity unit 0 (packet_count d (length unit))

-- the packets of units one after another; continuity goes on from unit to unit
abbrev pub packets_after : ℕ → ℕ → ℕ → List (List ℕ) → List PacketFields
packets_after id d continuity [] = []
packets_after id d continuity (unit ∷ units) =
    unit_packets id d continuity unit
    ++ packets_after id d ((continuity + packet_count d (length unit)) % 8) units

-- the packets of units, the first of them with continuity 0
abbrev pub packets : ℕ → ℕ → List (List ℕ) → List PacketFields
packets id d units = packets_after id d 0 units

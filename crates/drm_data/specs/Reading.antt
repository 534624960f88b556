-- A packet as it is given, and its parts as the code has them.
use Rattle.std.specs.Prelude.{ℕ, ◌≡◌, ◌≤◌, ◌<◌, ◌/◌, ◌%◌, ◌==◌, Bool, true, if◌then◌else◌, List, take, drop, slice_index, Result, Ok, Err}
use Rattle.std.specs.Borrow.{Bor}
use Rattle.drm_data.specs.declared.fault.DataFault.{DataFault}
use Rattle.drm_data.specs.declared.fault.DataFault.TheVariants.{Useful}
use Rattle.drm_data.specs.declared.packet.DataPacket.{DataPacket}
use Rattle.drm_data.specs.declared.packet.DataHead.{DataHead}
use Rattle.drm_data.specs.PacketFields.{PacketFields}

-- the packet that is given
abbrev pub packet_of : DataPacket → PacketFields
packet_of p =
    record { first = p.first; last = p.last; id = p.id; continuity = p.continuity; useful = p.useful.now }

-- the fields of a first byte
abbrev pub flag_at : ℕ → ℕ → Bool
flag_at weight byte = byte / weight % 2 == 1

pub record IsHeadOf (h : DataHead) (byte : ℕ) : Type 0 where
  pub first : h.first ≡ flag_at 128 byte
  pub last : h.last ≡ flag_at 64 byte
  pub id : h.id ≡ byte / 16 % 4
  pub padded : h.padded ≡ flag_at 8 byte
  pub continuity : h.continuity ≡ byte % 8

-- the useful bytes behind a first byte, whether the data field is padded or not
abbrev pub useful_in : Bool → List ℕ → List ℕ
useful_in padded front = if padded then take (slice_index front 1) (drop 2 front) else drop 1 front

-- They fit into a data field of d bytes, or their number is the fault.
abbrev pub FindsUseful : ℕ → Bool → List ℕ → Result (Bor (List ℕ)) DataFault → Type 0
FindsUseful d padded front (Ok useful) = (useful.now ≡ useful_in padded front) × (padded ≡ true → slice_index front 1 < d)
FindsUseful d padded front (Err (Useful count)) = (padded ≡ true) × (count ≡ slice_index front 1) × (d ≤ count)
FindsUseful d padded front (Err other) = ⊥

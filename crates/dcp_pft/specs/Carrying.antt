-- How a packet is carried: whole as one datagram, or cut into fragments (TS 102 821).
use Rattle.std.specs.Prelude.{ℕ, ◌≡◌, ◌+◌, ◌-◌, ◌*◌, ◌≤◌, min, List, length, Option, None, Some}
use Rattle.dcp_pft.specs.declared.carry.Carry.{Carry}
use Rattle.dcp_pft.specs.declared.carry.Carry.TheVariants.{Plain, Pft}
use Rattle.dcp_pft.specs.declared.shape.Rs.{Rs}
use Rattle.dcp_pft.specs.declared.shape.Shape.{Shape}
use Rattle.dcp_pft.specs.Limits.{most_losses, least_fragment, most_fragment}
use Rattle.dcp_pft.specs.Cutting.{shape_of}
use Rattle.dcp_pft.specs.Head.{IsFragmentOf}

-- one that this profile has: FEC with m from 0, which is none, to 5, and fragments of 128 to 1,500 bytes
abbrev pub CarryFits : Carry → Type 0
CarryFits Plain = Unit {0}
CarryFits (Pft m mtu) = (m ≤ most_losses) × (least_fragment ≤ mtu) × (mtu ≤ most_fragment)

-- how a packet of so many bytes is cut, if it is
abbrev pub cut_of : Carry → ℕ → Option Shape
cut_of Plain len = None
cut_of (Pft m mtu) len = Some (shape_of len m mtu)

-- the same, where a packet that is carried whole is one piece
abbrev pub shape_under : Carry → ℕ → Shape
shape_under Plain len = record { count = 1; piece = len; rs = None }
shape_under (Pft m mtu) len = shape_of len m mtu

-- how many datagrams carry a packet of so many bytes
abbrev pub datagram_count : Carry → ℕ → ℕ
datagram_count carry len = (shape_under carry len).count

-- how many of them may be lost
abbrev pub losses : Carry → ℕ
losses Plain = 0
losses (Pft m mtu) = m

-- The bytes of fragment i of a packet of so many bytes: its header and what it carries, which without a code is less in
-- the last one.
abbrev pub fragment_size : Shape → ℕ → ℕ → ℕ
fragment_size shape len i = of shape.rs
  where
    of : Option Rs → ℕ
    of None = 14 + min shape.piece (len - i * shape.piece)
    of (Some rs) = 16 + shape.piece

-- the bytes of datagram i of a packet of so many bytes
abbrev pub datagram_size : Carry → ℕ → ℕ → ℕ
datagram_size Plain len i = len
datagram_size (Pft m mtu) len i = fragment_size (shape_of len m mtu) len i

-- datagram i of a packet with this sequence number: the packet itself, or its fragment i
abbrev pub CarriesPacket : Carry → ℕ → List ℕ → ℕ → List ℕ → Type 0
CarriesPacket Plain sequence packet i datagram = datagram ≡ packet
CarriesPacket (Pft m mtu) sequence packet i datagram = IsFragmentOf (shape_of (length packet) m mtu) sequence packet i datagram

-- A packet under a carry.
use Rattle.std.specs.Prelude.{ℕ, ◌≡◌, ◌+◌, ◌*◌, ◌<◌, Bool, false, List, length, nat_lt, slice_index_or}
use Rattle.std.specs.List.{concat}
use Rattle.dcp_pft.specs.declared.carry.Carry.{Carry}
use Rattle.dcp_pft.specs.declared.carry.Carry.TheVariants.{Plain, Pft}
use Rattle.dcp_pft.specs.Limits.{most_packet, most_carried, most_fragments, most_fragment}
use Rattle.dcp_pft.specs.Carrying.{datagram_count, CarriesPacket}

-- all datagrams of a packet with this sequence number, in their order
pub record AreOf (carry : Carry) (sequence : ℕ) (packet : List ℕ) (datagrams : List (List ℕ)) : Type 0 where
  pub many : length datagrams ≡ datagram_count carry (length packet)
  pub each : (i : ℕ) (none : List ℕ) → i < length datagrams → CarriesPacket carry sequence packet i (slice_index_or datagrams i none)

-- The text is these, one after another.
pub record CarriesText (carry : Carry) (sequence : ℕ) (packet text : List ℕ) : Type 0 where
  pub datagrams : List (List ℕ)
  pub are : AreOf carry sequence packet datagrams
  pub is : text ≡ concat datagrams

-- A packet of so many bytes is too long to be cut; whole packets are of any length.
abbrev pub is_too_long : Carry → ℕ → Bool
is_too_long Plain len = false
is_too_long (Pft m mtu) len = nat_lt (most_packet (Pft m mtu)) len

-- room for the fragments of a packet, each with its header, and for one more
abbrev pub most_room : ℕ
most_room = most_carried + 16 * most_fragments + most_fragment

-- The laws of cutting and reading.
use Rattle.std.specs.Prelude.{ℕ, ◌≡◌, ◌+◌, ◌*◌, ◌^◌, ◌<◌, ◌≤◌, Bool, true, List, length, Some}
use Rattle.dcp_pft.specs.declared.carry.Carry.{Carry}
use Rattle.dcp_pft.specs.declared.carry.Carry.TheVariants.{Pft}
use Rattle.dcp_pft.specs.declared.shape.Rs.{Rs}
use Rattle.dcp_pft.specs.declared.shape.Shape.{Shape}
use Rattle.dcp_pft.specs.Limits.{most_packet, most_losses, least_fragment, most_fragment, most_fragments, most_carried, most_chunks}
use Rattle.dcp_pft.specs.Carrying.{CarryFits, shape_under, losses, CarriesPacket, datagram_size}
use Rattle.dcp_pft.specs.Coding.{payload_of}
use Rattle.dcp_pft.specs.Cutting.{IsShapeOf, chunk_count, chunks_of, shape_of}
use Rattle.dcp_pft.specs.Head.{IsFragmentOf, SpellsHead, fragment_of}
use Rattle.dcp_pft.specs.Loss.{size, is_recoverable}
use Rattle.dcp_pft.specs.Reading.{IsPft}

-- the fragments make as many chunks as the packet was cut into
abbrev pub ChunksAgree : Type 0
ChunksAgree =
    (len m mtu : ℕ) → 1 ≤ len → len ≤ most_packet (Pft m mtu) → 1 ≤ m → m ≤ most_losses → least_fragment ≤ mtu → mtu ≤ most_fragment
    → chunks_of (shape_of len m mtu) ≡ chunk_count len

-- a code that a reader takes, where the fragments make so many chunks
pub record IsCodeTaken (rs : Rs) (chunks : ℕ) : Type 0 where
  pub some : 1 ≤ rs.k
  pub few : rs.k ≤ 207
  pub fill : rs.z < rs.k
  pub chunk : 0 < chunks

-- a shape that a reader takes
pub record IsTaken (shape : Shape) : Type 0 where
  pub some : 0 < shape.count
  pub few : shape.count ≤ most_fragments
  pub bytes : shape.count * shape.piece ≤ most_carried
  pub chunks : chunks_of shape ≤ most_chunks
  pub code : (rs : Rs) → shape.rs ≡ Some rs → IsCodeTaken rs (chunks_of shape)

-- a reader takes every shape
abbrev pub AllTaken : Type 0
AllTaken =
    (len m mtu : ℕ) → 1 ≤ len → len ≤ most_packet (Pft m mtu) → m ≤ most_losses → least_fragment ≤ mtu → mtu ≤ most_fragment
    → IsTaken (shape_of len m mtu)

-- all datagrams of a packet but as many as it was cut for are enough
abbrev pub AnyMayBeLost : Type 0
AnyMayBeLost =
    (carry : Carry) (len : ℕ) (kept : ℕ → Bool) → CarryFits carry → 1 ≤ len → len ≤ most_packet carry
    → (shape_under carry len).count ≤ size (shape_under carry len).count kept + losses carry
    → is_recoverable (shape_under carry len) kept ≡ true

-- a packet's fragment is one datagram, however it is cut
abbrev pub OneFragment : Type 0
OneFragment =
    (m mtu seq i : ℕ) (packet first second : List ℕ) → 1 ≤ length packet
    → IsFragmentOf (shape_of (length packet) m mtu) seq packet i first → IsFragmentOf (shape_of (length packet) m mtu) seq packet i second
    → second ≡ first

-- each fragment of a packet carries a byte at least
abbrev pub NoneIsEmpty : Type 0
NoneIsEmpty =
    (shape : Shape) (packet parity : List ℕ) (i : ℕ) → IsShapeOf (length packet) shape → i < shape.count
    → 1 ≤ length (payload_of shape packet parity i)

-- a fragment that was written is read, as it was written
abbrev pub ReadAsWritten : Type 0
ReadAsWritten =
    (shape : Shape) (seq i : ℕ) (packet parity datagram : List ℕ)
    → IsShapeOf (length packet) shape → seq < 2 ^ 16 → i < shape.count
    → SpellsHead (fragment_of shape seq packet parity i) datagram → IsPft (fragment_of shape seq packet parity i) datagram

-- what is counted of a datagram is its length
abbrev pub DatagramsHaveTheirSize : Type 0
DatagramsHaveTheirSize =
    (carry : Carry) (seq i : ℕ) (packet datagram : List ℕ) → CarriesPacket carry seq packet i datagram
    → length datagram ≡ datagram_size carry (length packet) i

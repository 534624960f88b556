-- The datagrams of a packet as they are read, and what is known of how a packet is cut.
use Rattle.std.specs.Prelude.{ℕ, ◌≡◌, ◌-◌, ◌*◌, ◌<◌, min, Bool, true, false, List, length, slice_get, Option, Some, None}
use Rattle.std.specs.List.{AllByRecursion}
use Rattle.dcp_pft.specs.declared.shape.Rs.{Rs}
use Rattle.dcp_pft.specs.declared.shape.Shape.{Shape}
use Rattle.dcp_pft.specs.Coding.{IsParityOf, payload_of}
use Rattle.dcp_pft.specs.Loss.{is_recoverable}
use Rattle.dcp_collect.specs.declared.head.Head.{Head}
use Rattle.dcp_collect.specs.Fragments.{NumberedFragment, agree, shape_by, suffice}
use Rattle.dcp_collect.proofs.Ascending.{IsAscending}
use Rattle.dcp_collect.specs.Reading.{Incoming, Brings, IsReadAs}
use Rattle.dcp_collect.specs.Decoding.{IsDecoded}
use Rattle.dcp_pft.specs.declared.carry.Carry.{Carry}
use Rattle.dcp_pft.specs.declared.carry.Carry.TheVariants.{Plain, Pft}
use Rattle.dcp_pft.specs.Carrying.{shape_under}
use Rattle.law_collect.specs.Delivery.{sequence_at}

-- how many bytes fragment i carries of a packet of so many bytes
abbrev pub payload_size : Shape → ℕ → ℕ → ℕ
payload_size shape len i = by shape.rs
  where
    by : Option Rs → ℕ
    by None = min shape.piece (len - i * shape.piece)
    by (Some rs) = shape.piece

-- the head of datagram i of a packet
abbrev pub head_of : Carry → List ℕ → ℕ → Head
head_of Plain packet i = record { whole = true; count = 1; index = i; len = length packet; rs = None }
head_of (Pft m mtu) packet i =
    let shape = shape_under (Pft m mtu) (length packet) in
    record { whole = false; count = shape.count; index = i; len = payload_size shape (length packet) i; rs = shape.rs }

-- the bytes are the payload of datagram i of a packet
abbrev pub IsPayload : Carry → List ℕ → ℕ → List ℕ → Type 0
IsPayload Plain packet i payload = payload ≡ packet
IsPayload (Pft m mtu) packet i payload =
    let shape = shape_under (Pft m mtu) (length packet) in
    (parity : List ℕ) × IsParityOf shape packet parity × (payload ≡ payload_of shape packet parity i)

-- how many datagrams a packet is
abbrev pub datagrams_of : Carry → List ℕ → ℕ
datagrams_of carry packet = (shape_under carry (length packet)).count

-- a fragment of this packet
abbrev pub IsOf : Carry → List ℕ → NumberedFragment → Type 0
IsOf carry packet f =
    (f.head.index < datagrams_of carry packet)
    × (f.head ≡ head_of carry packet f.head.index)
    × IsPayload carry packet f.head.index f.payload

-- what cutting and the code promise of a packet
pub record IsCut (carry : Carry) (packet : List ℕ) : Type 0 where
  pub counts : (i : ℕ) → i < datagrams_of carry packet → (head_of carry packet i).count ≡ datagrams_of carry packet
  pub indices : (i : ℕ) → i < datagrams_of carry packet → (head_of carry packet i).index ≡ i
  pub agrees : (i j : ℕ) → i < datagrams_of carry packet → j < datagrams_of carry packet
      → agree (head_of carry packet i) (head_of carry packet j) ≡ true
  pub same_shape : (i : ℕ) (kept : ℕ → Bool) → i < datagrams_of carry packet
      → is_recoverable (shape_by (head_of carry packet i)) kept ≡ is_recoverable (shape_under carry (length packet)) kept
  pub some_needed : is_recoverable (shape_under carry (length packet)) (λ i. false) ≡ false
  pub decoded : (fs : List NumberedFragment) → AllByRecursion (IsOf carry packet) fs → IsAscending fs → suffice fs ≡ true → IsDecoded fs packet
  pub decoded_only : (fs : List NumberedFragment) (bytes : List ℕ) → AllByRecursion (IsOf carry packet) fs → IsAscending fs → suffice fs ≡ true
      → IsDecoded fs bytes → bytes ≡ packet

-- a pair's datagram, as it is read
pub record BringsPair (carry : Carry) (sequence0 : ℕ) (packets : List (List ℕ)) (pair : ℕ × ℕ) (datagram : List ℕ) : Type 0 where
  pub packet : List ℕ
  pub at : slice_get packets pair.0 ≡ Some packet
  pub within : pair.1 < datagrams_of carry packet
  pub incoming : Incoming
  pub is_read : IsReadAs (Brings incoming) datagram
  pub sequence : incoming.sequence ≡ sequence_at sequence0 pair.0
  pub head : incoming.head ≡ head_of carry packet pair.1
  pub payload : IsPayload carry packet pair.1 incoming.payload

-- What stands at the front of some bytes of a capture. A packet is cut by its head alone (TS 102 821): an AF packet by its
-- length field, a PFT fragment by the lengths of its header and its payload.
use Rattle.std.specs.Prelude.{ℕ, ◌≡◌, ◌≢◌, ◌+◌, ◌<◌, ◌≤◌, ◌⊎◌, List, [], ◌∷◌, length, take}
use Rattle.dcp_af.specs.Packet as af
use Rattle.dcp_af.specs.Faults as af_head
use Rattle.dcp_pft.specs.Head as pft
use Rattle.dcp_pft.specs.Faults as pft_head
use Rattle.drm_bits.specs.Crc.{IsCheckOf}
use Rattle.capture_reader.specs.declared.fault.CaptureField.{CaptureField}
use Rattle.capture_reader.specs.declared.fault.CaptureField.TheVariants.{Sync, HeadCrc, TooLarge, HeadCut, BodyCut}

pub data Front : Type 0 where
  -- a packet of so many bytes
  Packet : ℕ → Front
  -- no packet, whatever comes behind
  Wrong : CaptureField → Front
  -- the bytes end before a packet does; their fault, where no more come
  Cut : CaptureField → Front

-- the most bytes of a packet
abbrev pub most_packet : ℕ
most_packet = 65536

-- ---- an AF packet

-- the bytes of a head, up to the payload
abbrev pub af_head_size : ℕ
af_head_size = 10

-- The bytes begin with AF.
abbrev pub AfFront : List ℕ → Front → Type 0
AfFront bytes (Packet n) =
    (af_head_size ≤ length bytes) × (n ≡ af_head.described bytes) × (n ≤ most_packet) × (n ≤ length bytes)
AfFront bytes (Wrong TooLarge) = (af_head_size ≤ length bytes) × (most_packet < af_head.described bytes)
AfFront bytes (Cut HeadCut) = length bytes < af_head_size
AfFront bytes (Cut BodyCut) =
    (af_head_size ≤ length bytes) × (af_head.described bytes ≤ most_packet) × (length bytes < af_head.described bytes)
AfFront bytes other = ⊥

-- ---- a PFT fragment

-- the bytes of a fragment by its header
abbrev pub fragment_size : List ℕ → ℕ
fragment_size bytes = pft_head.head_size bytes + pft_head.described bytes

-- the check value of the header is right
abbrev pub IsHeadChecked : List ℕ → Type 0
IsHeadChecked bytes = IsCheckOf (pft_head.checked_bytes bytes) (pft_head.check_value bytes)

-- The bytes begin with PF.
abbrev pub PftFront : List ℕ → Front → Type 0
PftFront bytes (Packet n) =
    (pft_head.head_size bytes ≤ length bytes) × IsHeadChecked bytes × (n ≡ fragment_size bytes) × (n ≤ length bytes)
PftFront bytes (Wrong HeadCrc) = (pft_head.head_size bytes ≤ length bytes) × (IsHeadChecked bytes → ⊥)
PftFront bytes (Cut HeadCut) = length bytes < pft_head.head_size bytes
PftFront bytes (Cut BodyCut) =
    (pft_head.head_size bytes ≤ length bytes) × IsHeadChecked bytes × (length bytes < fragment_size bytes)
PftFront bytes other = ⊥

-- ---- neither

-- A first byte of one of the two, alone.
abbrev pub IsHalfSync : List ℕ → Type 0
IsHalfSync bytes = (bytes ≡ take 1 af.sync) ⊎ (bytes ≡ take 1 pft.sync)

-- The bytes begin with neither AF nor PF.
abbrev pub OtherFront : List ℕ → Front → Type 0
OtherFront bytes (Wrong Sync) = 2 ≤ length bytes
OtherFront bytes (Cut Sync) = (length bytes ≡ 1) × (IsHalfSync bytes → ⊥)
OtherFront bytes (Cut HeadCut) = (bytes ≡ []) ⊎ IsHalfSync bytes
OtherFront bytes other = ⊥

-- ---- all

-- The bytes begin so.
pub data BytesBegin (bytes : List ℕ) (front : Front) : Type 0 where
  Af : take 2 bytes ≡ af.sync → AfFront bytes front → BytesBegin bytes front
  Pft : take 2 bytes ≡ pft.sync → PftFront bytes front → BytesBegin bytes front
  Other : take 2 bytes ≢ af.sync → take 2 bytes ≢ pft.sync → OtherFront bytes front → BytesBegin bytes front

-- The bytes are a packet, all of them.
abbrev pub IsWhole : List ℕ → Type 0
IsWhole packet = BytesBegin packet (Packet (length packet))

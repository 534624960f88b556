-- How a packet is cut into fragments (TS 102 821; the numbers of fragments and bytes are this profile's).
use Rattle.std.specs.Prelude.{ℕ, zero, suc, ◌≡◌, ◌+◌, ◌-◌, ◌*◌, ◌/◌, ◌≤◌, min, Option, None, Some}
use Rattle.std.specs.Int.{div_ceil}
use Rattle.dcp_pft.specs.declared.carry.Carry.TheVariants.{Pft}
use Rattle.dcp_pft.specs.declared.shape.Rs.{Rs}
use Rattle.dcp_pft.specs.declared.shape.Shape.{Shape}
use Rattle.dcp_pft.specs.Limits.{most_packet, most_losses, least_fragment, most_fragment}

-- the chunks of a packet of so many bytes: as few as hold 207 bytes each
unfoldable pub chunk_count : ℕ → ℕ
chunk_count len = div_ceil len 207

-- the bytes of each chunk, as few as make so many chunks
unfoldable pub chunk_size : ℕ → ℕ
chunk_size len = div_ceil len (chunk_count len)

-- the bytes of all chunks, each with its 48 bytes of parity
unfoldable pub coded_size : ℕ → ℕ
coded_size len = chunk_count len * (chunk_size len + 48)

-- The most bytes that a fragment carries: m of them have at most 48 of each chunk, and the fragment with its 16 bytes of
-- header fits the datagram.
unfoldable pub most_bytes : ℕ → ℕ → ℕ → ℕ
most_bytes len m mtu = min (48 * chunk_count len / (m + 1)) (mtu - 16)

-- as few fragments as carry this, of equal size
abbrev pub cut : ℕ → ℕ → Option Rs → Shape
cut size most rs = record { count = div_ceil size most; piece = div_ceil size (div_ceil size most); rs = rs }

-- with a code: of equal chunks, the last of which is filled with zeros
abbrev pub coded_shape : ℕ → ℕ → ℕ → Shape
coded_shape len m mtu =
    cut (coded_size len) (most_bytes len m mtu) (Some (record { k = chunk_size len; z = chunk_count len * chunk_size len - len }))

-- without one; the header has 14 bytes
abbrev pub plain_shape : ℕ → ℕ → Shape
plain_shape len mtu = cut len (mtu - 14) None

-- how a packet of so many bytes is cut so that m fragments may be lost and no datagram is longer than mtu bytes
unfoldable pub shape_of : ℕ → ℕ → ℕ → Shape
shape_of len zero mtu = plain_shape len mtu
shape_of len (suc m) mtu = coded_shape len (suc m) mtu

-- the chunks that fragments of this shape make: none without a code
abbrev pub chunks_of : Shape → ℕ
chunks_of shape = of shape.rs
  where
    of : Option Rs → ℕ
    of None = 0
    of (Some rs) = shape.count * shape.piece / (rs.k + 48)

-- the shape of a packet with so many bytes, in this profile
pub record IsShapeOf (len : ℕ) (shape : Shape) : Type 0 where
  pub some : 1 ≤ len
  pub m : ℕ
  pub few : m ≤ most_losses
  pub mtu : ℕ
  pub least : least_fragment ≤ mtu
  pub most : mtu ≤ most_fragment
  pub small : len ≤ most_packet (Pft m mtu)
  pub is : shape ≡ shape_of len m mtu

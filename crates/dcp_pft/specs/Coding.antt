-- The chunks of a packet with their parity, and the bytes of each fragment (TS 102 821).
use Rattle.std.specs.Prelude.{ℕ, zero, suc, ◌≡◌, ◌+◌, ◌*◌, List, [], ◌++◌, take, drop, map, replicate, slice_index_or, Option, None, Some}
use Rattle.std.specs.List.{range_with_len}
use Rattle.rs_erase.specs.Code.{IsCodeWord, word_of}
use Rattle.dcp_pft.specs.declared.shape.Rs.{Rs}
use Rattle.dcp_pft.specs.declared.shape.Shape.{Shape}
use Rattle.dcp_pft.specs.Cutting.{chunks_of}

-- so many chunks of k bytes, and 48 bytes for each that make it, zeros up to 207 and these a code word
abbrev pub AreParities : ℕ → ℕ → List ℕ → List ℕ → Type 0
AreParities zero k chunks parities = parities ≡ []
AreParities (suc c) k chunks parities =
    IsCodeWord (word_of (take k chunks) (take 48 parities)) × AreParities c k (drop k chunks) (drop 48 parities)

-- the packet with the zeros that end its last chunk
abbrev pub filled : Rs → List ℕ → List ℕ
filled rs packet = packet ++ replicate rs.z 0

-- the parity of a packet that is cut in this shape: none without a code
abbrev pub IsParityOf : Shape → List ℕ → List ℕ → Type 0
IsParityOf shape packet parity = of shape.rs
  where
    of : Option Rs → Type 0
    of None = parity ≡ []
    of (Some rs) = AreParities (chunks_of shape) rs.k (filled rs packet) parity

-- each chunk with its parity behind it
abbrev pub coded : ℕ → ℕ → List ℕ → List ℕ → List ℕ
coded zero k chunks parities = []
coded (suc c) k chunks parities = take k chunks ++ take 48 parities ++ coded c k (drop k chunks) (drop 48 parities)

-- the byte at a place, or 0 past the end
abbrev pub byte_or_zero : List ℕ → ℕ → ℕ
byte_or_zero bytes place = slice_index_or bytes place 0

-- so many bytes, every count-th one of these from the first one on
abbrev pub every : ℕ → ℕ → ℕ → List ℕ → List ℕ
every count first piece bytes = map (λ j. byte_or_zero bytes (j * count + first)) (range_with_len 0 piece)

-- What fragment i carries: with a code every count-th byte of the coded chunks from the i-th one on, without one its piece
-- of the packet.
abbrev pub payload_of : Shape → List ℕ → List ℕ → ℕ → List ℕ
payload_of shape packet parity i = of shape.rs
  where
    of : Option Rs → List ℕ
    of None = take shape.piece (drop (i * shape.piece) packet)
    of (Some rs) = every shape.count i shape.piece (coded (chunks_of shape) rs.k (filled rs packet) parity)

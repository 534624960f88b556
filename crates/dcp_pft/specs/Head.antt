-- PFT fragments (TS 102 821).
use Rattle.std.specs.Prelude.{ℕ, ◌≡◌, ◌+◌, ◌*◌, List, [], ◌∷◌, ◌++◌, drop, length, Option, None, Some}
use Rattle.std.specs.Int.{w16, w32, to_be_bytes}
use Rattle.drm_bits.specs.Crc.{IsCheckOf}
use Rattle.dcp_pft.specs.declared.shape.Rs.{Rs}
use Rattle.dcp_pft.specs.declared.shape.Shape.{Shape}
use Rattle.dcp_pft.specs.declared.fragment.Addr.{Addr}
use Rattle.dcp_pft.specs.Coding.{IsParityOf, payload_of}

-- what a fragment says: the number of its packet, its own and how many there are, the code if there is one, addresses if
-- there are any, and the bytes that it carries
pub record PftFragment : Type 0 where
  pub seq : ℕ
  pub index : ℕ
  pub count : ℕ
  pub rs : Option Rs
  pub addr : Option Addr
  pub payload : List ℕ

-- PF
abbrev pub sync : List ℕ
sync = 80 ∷ 70 ∷ []

-- a number in three bytes
abbrev pub three_bytes : ℕ → List ℕ
three_bytes n = drop 1 (to_be_bytes w32 n)

-- one bit each: whether there is a code, whether there are addresses
abbrev pub flag : {T : Type 0} → Option T → ℕ
flag None = 0
flag (Some x) = 1

-- chunk length and fill, a byte each
abbrev pub rs_bytes : Option Rs → List ℕ
rs_bytes None = []
rs_bytes (Some rs) = rs.k ∷ rs.z ∷ []

-- source and destination, two bytes each
abbrev pub addr_bytes : Option Addr → List ℕ
addr_bytes None = []
addr_bytes (Some addr) = to_be_bytes w16 addr.source ++ to_be_bytes w16 addr.dest

-- the header before its check value; the length of the payload has the 14 bits behind the flags
abbrev pub head : PftFragment → List ℕ
head f =
    sync ++ to_be_bytes w16 f.seq ++ three_bytes f.index ++ three_bytes f.count
    ++ to_be_bytes w16 (32768 * flag f.rs + 16384 * flag f.addr + length f.payload)
    ++ rs_bytes f.rs ++ addr_bytes f.addr

-- The bytes are the header of this fragment, its check value, and its payload.
pub record SpellsHead (f : PftFragment) (bytes : List ℕ) : Type 0 where
  pub check : ℕ
  pub checks : IsCheckOf (head f) check
  pub spelled : bytes ≡ head f ++ to_be_bytes w16 check ++ f.payload

-- fragment i of a packet that is cut in this shape
abbrev pub fragment_of : Shape → ℕ → List ℕ → List ℕ → ℕ → PftFragment
fragment_of shape seq packet parity i =
    record { seq = seq; index = i; count = shape.count; rs = shape.rs; addr = None; payload = payload_of shape packet parity i }

-- The datagram is fragment i of the packet with this number.
pub record IsFragmentOf (shape : Shape) (seq : ℕ) (packet : List ℕ) (i : ℕ) (datagram : List ℕ) : Type 0 where
  pub parity : List ℕ
  pub is_parity : IsParityOf shape packet parity
  pub spells : SpellsHead (fragment_of shape seq packet parity i) datagram

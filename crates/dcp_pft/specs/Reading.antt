-- A fragment as it is read (TS 102 821; how many fragments and bytes are most is this profile's).
use Rattle.std.specs.Prelude.{ℕ, ◌≡◌, ◌+◌, ◌*◌, ◌^◌, ◌<◌, ◌≤◌, ◌⊎◌, List, [], ◌∷◌, length, Option, IfSome, IsSomeAnd, Result, Ok, Err}
use Rattle.dcp_pft.specs.declared.shape.Rs.{Rs}
use Rattle.dcp_pft.specs.declared.fragment.Fragment.{Fragment}
use Rattle.dcp_pft.specs.declared.head.PftHead.{PftHead}
use Rattle.dcp_pft.specs.declared.fault.PftFault.{PftFault}
use Rattle.dcp_pft.specs.declared.fault.PftFault.TheVariants.{Sync, HeadCut, HeadCrc, Count, Index, PlenMismatch, RsK, RsZ, TooMany, TooLarge, Chunks}
use Rattle.dcp_pft.specs.Limits.{most_fragments, most_carried}
use Rattle.dcp_pft.specs.Head.{PftFragment, SpellsHead}
use Rattle.dcp_pft.specs.Faults.{sequence_number, fragment_index, fragment_count, described, code, addresses}

-- the fragment that is given
abbrev pub pft_of : Fragment → PftFragment
pft_of f = record { seq = f.seq; index = f.index; count = f.count; rs = f.rs; addr = f.addr; payload = f.payload.now }

-- a code in which fragments of so many bytes have at least one chunk with its parity
pub record IsCodeFor (size : ℕ) (rs : Rs) : Type 0 where
  pub some : 1 ≤ rs.k
  pub most : rs.k ≤ 207
  pub fill : rs.z < rs.k
  pub chunk : rs.k + 48 ≤ size

-- The bytes are this fragment, one that is read.
pub record IsPft (f : PftFragment) (bytes : List ℕ) : Type 0 where
  pub spells : SpellsHead f bytes
  pub seq : f.seq < 2 ^ 16
  pub addr : IfSome f.addr (λ addr. (addr.source < 2 ^ 16) × (addr.dest < 2 ^ 16))
  pub some : 1 ≤ f.count
  pub index : f.index < f.count
  pub few : f.count ≤ most_fragments
  pub len : length f.payload < 2 ^ 14
  pub size : f.count * length f.payload ≤ most_carried
  pub code : IfSome f.rs (λ rs. IsCodeFor (f.count * length f.payload) rs)

-- the fields of the header of these bytes
pub record IsHeadOf (h : PftHead) (bytes : List ℕ) : Type 0 where
  pub seq : h.seq ≡ sequence_number bytes
  pub index : h.index ≡ fragment_index bytes
  pub count : h.count ≡ fragment_count bytes
  pub len : h.len ≡ described bytes
  pub rs : h.rs ≡ code bytes
  pub addr : h.addr ≡ addresses bytes

-- the rows about the bytes of the header, its check value, and its numbers
abbrev pub size_rows : List PftFault
size_rows = Sync ∷ HeadCut ∷ []

abbrev pub check_rows : List PftFault
check_rows = HeadCrc ∷ []

-- the rows about the header alone
abbrev pub head_rows : List PftFault
head_rows = Sync ∷ HeadCut ∷ HeadCrc ∷ []

abbrev pub number_rows : List PftFault
number_rows = Count ∷ Index ∷ PlenMismatch ∷ RsK ∷ RsZ ∷ TooMany ∷ TooLarge ∷ Chunks ∷ []

-- RsK and RsZ for the code, if there is one
abbrev pub JudgesCode : Result (Unit {0}) PftFault → Option Rs → Type 0
JudgesCode (Ok _) rs = IfSome rs (λ rs. (1 ≤ rs.k) × (rs.k ≤ 207) × (rs.z < rs.k))
JudgesCode (Err RsK) rs = IsSomeAnd rs (λ rs. (rs.k ≡ 0) ⊎ (207 < rs.k))
JudgesCode (Err RsZ) rs = IsSomeAnd rs (λ rs. (1 ≤ rs.k) × (rs.k ≤ 207) × (rs.k ≤ rs.z))
JudgesCode (Err other) rs = ⊥

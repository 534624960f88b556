-- What is refused of a fragment (TS 102 821; how many fragments and bytes are most is this profile's): the first row of a
-- table that holds.
use Rattle.std.specs.Prelude.{ℕ, ◌≡◌, ◌≢◌, ◌+◌, ◌*◌, ◌/◌, ◌%◌, ◌<◌, ◌≤◌, ◌⊎◌, Bool, List, [], ◌∷◌, length, take, drop, nat_le, slice_index, slice_range, Option, None, Some, IsSomeAnd, if◌then◌else◌}
use Rattle.std.specs.Int.{w16, w32, from_be_bytes}
use Rattle.dcp_pft.specs.declared.shape.Rs.{Rs}
use Rattle.dcp_pft.specs.declared.fragment.Addr.{Addr}
use Rattle.dcp_pft.specs.declared.fault.PftFault.{PftFault}
use Rattle.dcp_pft.specs.declared.fault.PftFault.TheVariants.{Sync, HeadCut, HeadCrc, Count, Index, PlenMismatch, RsK, RsZ, TooMany, TooLarge, Chunks}
use Rattle.drm_bits.specs.Crc.{IsCheckOf}
use Rattle.dcp_pft.specs.Limits.{most_fragments, most_carried}
use Rattle.dcp_pft.specs.Head.{sync}

-- the numbers at their places
abbrev pub sequence_number : List ℕ → ℕ
sequence_number bytes = from_be_bytes w16 (slice_range bytes 2 4)

abbrev pub fragment_index : List ℕ → ℕ
fragment_index bytes = from_be_bytes w32 (0 ∷ slice_range bytes 4 7)

abbrev pub fragment_count : List ℕ → ℕ
fragment_count bytes = from_be_bytes w32 (0 ∷ slice_range bytes 7 10)

-- 16 bits: one for a code, one for addresses, and 14 with the length of the payload
abbrev pub marks : List ℕ → ℕ
marks bytes = from_be_bytes w16 (slice_range bytes 10 12)

abbrev pub has_code : ℕ → Bool
has_code n = nat_le 32768 n

abbrev pub has_addresses : ℕ → Bool
has_addresses n = nat_le 16384 (n % 32768)

abbrev pub described : List ℕ → ℕ
described bytes = marks bytes % 16384

-- the code behind these, two bytes
abbrev pub code : List ℕ → Option Rs
code bytes = if has_code (marks bytes) then Some (record { k = slice_index bytes 12; z = slice_index bytes 13 }) else None

-- and behind it the addresses, four bytes
abbrev pub addresses_place : List ℕ → ℕ
addresses_place bytes = if has_code (marks bytes) then 14 else 12

abbrev pub addresses_at : List ℕ → ℕ → Addr
addresses_at bytes n = record { source = from_be_bytes w16 (slice_range bytes n (n + 2)); dest = from_be_bytes w16 (slice_range bytes (n + 2) (n + 4)) }

abbrev pub addresses : List ℕ → Option Addr
addresses bytes = if has_addresses (marks bytes) then Some (addresses_at bytes (addresses_place bytes)) else None

-- how many bytes the header has before its check value
abbrev pub checked_size : List ℕ → ℕ
checked_size bytes = if has_addresses (marks bytes) then addresses_place bytes + 4 else addresses_place bytes

abbrev pub checked_bytes : List ℕ → List ℕ
checked_bytes bytes = take (checked_size bytes) bytes

abbrev pub check_value : List ℕ → ℕ
check_value bytes = from_be_bytes w16 (slice_range bytes (checked_size bytes) (checked_size bytes + 2))

-- all of the header, at least 14 bytes, and the bytes behind it
abbrev pub head_size : List ℕ → ℕ
head_size bytes = checked_size bytes + 2

abbrev pub payload : List ℕ → List ℕ
payload bytes = drop (head_size bytes) bytes

-- what each fault says
abbrev pub FaultHolds : PftFault → List ℕ → Type 0
FaultHolds Sync bytes = take 2 bytes ≢ sync
FaultHolds HeadCut bytes = length bytes < head_size bytes
FaultHolds HeadCrc bytes = IsCheckOf (checked_bytes bytes) (check_value bytes) → ⊥
FaultHolds Count bytes = fragment_count bytes ≡ 0
FaultHolds Index bytes = fragment_count bytes ≤ fragment_index bytes
FaultHolds PlenMismatch bytes = described bytes ≢ length (payload bytes)
FaultHolds RsK bytes = IsSomeAnd (code bytes) (λ rs. (rs.k ≡ 0) ⊎ (207 < rs.k))
FaultHolds RsZ bytes = IsSomeAnd (code bytes) (λ rs. rs.k ≤ rs.z)
FaultHolds TooMany bytes = most_fragments < fragment_count bytes
FaultHolds TooLarge bytes = most_carried < fragment_count bytes * described bytes
FaultHolds Chunks bytes = IsSomeAnd (code bytes) (λ rs. fragment_count bytes * described bytes / (rs.k + 48) ≡ 0)

-- the rows in their order
abbrev pub table : List PftFault
table = Sync ∷ HeadCut ∷ HeadCrc ∷ Count ∷ Index ∷ PlenMismatch ∷ RsK ∷ RsZ ∷ TooMany ∷ TooLarge ∷ Chunks ∷ []

-- the fault is the first of these rows that holds
abbrev pub IsFirstRow : List PftFault → PftFault → List ℕ → Type 0
IsFirstRow [] fault bytes = ⊥
IsFirstRow (row ∷ more) fault bytes = (FaultHolds row bytes × (fault ≡ row)) ⊎ ((FaultHolds row bytes → ⊥) × IsFirstRow more fault bytes)

-- none of these rows holds
abbrev pub NoneOf : List PftFault → List ℕ → Type 0
NoneOf [] bytes = Unit {0}
NoneOf (row ∷ more) bytes = (FaultHolds row bytes → ⊥) × NoneOf more bytes

abbrev pub IsFault : PftFault → List ℕ → Type 0
IsFault fault bytes = IsFirstRow table fault bytes

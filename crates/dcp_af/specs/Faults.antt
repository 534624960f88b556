-- What is refused of an AF packet (TS 102 821), and with which numbers: the first of these.
use Rattle.std.specs.Prelude.{ℕ, ◌≡◌, ◌≢◌, ◌+◌, ◌-◌, ◌<◌, ◌≤◌, Bool, true, List, length, take, drop, slice_index, slice_range}
use Rattle.std.specs.Int.{w16, w32, from_be_bytes}
use Rattle.dcp_af.specs.declared.fault.AfFault.{AfFault}
use Rattle.dcp_af.specs.declared.fault.AfFault.TheVariants.{Sync, HeadCut, Length, Version, Kind, Crc}
use Rattle.drm_bits.specs.Bits.{value, bit, digits}
use Rattle.drm_bits.specs.Crc.{IsCheckOf}
use Rattle.dcp_af.specs.Packet.{sync, tag_kind}

-- how many bytes the packet has by its head: ten of the head, those of the payload, and two of the check value
abbrev pub described : List ℕ → ℕ
described bytes = from_be_bytes w32 (slice_range bytes 2 6) + 12

abbrev pub sequence_number : List ℕ → ℕ
sequence_number bytes = from_be_bytes w16 (slice_range bytes 6 8)

-- byte 8 in bits: the first says whether the check value counts, the next three the major revision, and the last four the
-- minor one
abbrev pub revision_bits : List ℕ → List Bool
revision_bits bytes = digits 8 (slice_index bytes 8)

abbrev pub is_checked : List ℕ → Bool
is_checked bytes = bit (revision_bits bytes)

abbrev pub major : List ℕ → ℕ
major bytes = value (take 3 (drop 1 (revision_bits bytes)))

abbrev pub minor : List ℕ → ℕ
minor bytes = value (drop 4 (revision_bits bytes))

abbrev pub kind : List ℕ → ℕ
kind bytes = slice_index bytes 9

-- all bytes but the last two, the payload among them, and the number in the last two
abbrev pub checked_bytes : List ℕ → List ℕ
checked_bytes bytes = take (length bytes - 2) bytes

abbrev pub payload : List ℕ → List ℕ
payload bytes = slice_range bytes 10 (length bytes - 2)

abbrev pub check_value : List ℕ → ℕ
check_value bytes = from_be_bytes w16 (drop (length bytes - 2) bytes)

abbrev pub HasSync : List ℕ → Type 0
HasSync bytes = take 2 bytes ≡ sync

abbrev pub HasHead : List ℕ → Type 0
HasHead bytes = HasSync bytes × (12 ≤ length bytes)

abbrev pub HasLength : List ℕ → Type 0
HasLength bytes = HasHead bytes × (length bytes ≡ described bytes)

abbrev pub HasVersion : List ℕ → Type 0
HasVersion bytes = HasLength bytes × (major bytes ≡ 1)

abbrev pub HasKind : List ℕ → Type 0
HasKind bytes = HasVersion bytes × (kind bytes ≡ tag_kind)

-- each fault where it is the first one, with what stands there and what is due
abbrev pub IsFault : AfFault → List ℕ → Type 0
IsFault Sync bytes = HasSync bytes → ⊥
IsFault (HeadCut stands) bytes = HasSync bytes × (stands ≡ length bytes) × (stands < 12)
IsFault (Length stands due) bytes = HasHead bytes × (stands ≡ length bytes) × (due ≡ described bytes) × (stands ≢ due)
IsFault (Version stands) bytes = HasLength bytes × (stands ≡ major bytes) × (stands ≢ 1)
IsFault (Kind stands) bytes = HasVersion bytes × (stands ≡ kind bytes) × (stands ≢ tag_kind)
IsFault (Crc stands computed) bytes =
    HasKind bytes
    × (is_checked bytes ≡ true)
    × (stands ≡ check_value bytes)
    × IsCheckOf (checked_bytes bytes) computed
    × (stands ≢ computed)

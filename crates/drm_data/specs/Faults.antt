-- What is refused of a data packet, and with which numbers: the first of these.
use Rattle.std.specs.Prelude.{ℕ, ◌≡◌, ◌≢◌, ◌+◌, ◌-◌, ◌/◌, ◌%◌, ◌==◌, ◌≤◌, Bool, true, List, length, take, drop, slice_index}
use Rattle.std.specs.Int.{w16, from_be_bytes}
use Rattle.drm_bits.specs.Crc.{IsCheckOf}
use Rattle.drm_data.specs.declared.fault.DataFault.{DataFault}
use Rattle.drm_data.specs.declared.fault.DataFault.TheVariants.{Length, Crc, Useful}

-- all bytes but the last two, and the number in the last two
abbrev pub checked_bytes : List ℕ → List ℕ
checked_bytes bytes = take (length bytes - 2) bytes

abbrev pub check_value : List ℕ → ℕ
check_value bytes = from_be_bytes w16 (drop (length bytes - 2) bytes)

-- the bit of the first byte that says that the packet is padded
abbrev pub says_padded : List ℕ → Bool
says_padded bytes = slice_index bytes 0 / 8 % 2 == 1

-- the number of useful bytes that a padded packet says
abbrev pub said_count : List ℕ → ℕ
said_count bytes = slice_index bytes 1

abbrev pub HasLength : ℕ → List ℕ → Type 0
HasLength d bytes = length bytes ≡ d + 3

abbrev pub HasCheck : ℕ → List ℕ → Type 0
HasCheck d bytes = HasLength d bytes × IsCheckOf (checked_bytes bytes) (check_value bytes)

-- each fault where it is the first one, with what stands there and what is due
abbrev pub IsFault : ℕ → DataFault → List ℕ → Type 0
IsFault d (Length stands) bytes = (stands ≡ length bytes) × (stands ≢ d + 3)
IsFault d (Crc stands computed) bytes =
    HasLength d bytes × (stands ≡ check_value bytes) × IsCheckOf (checked_bytes bytes) computed × (stands ≢ computed)
IsFault d (Useful count) bytes = HasCheck d bytes × (says_padded bytes ≡ true) × (count ≡ said_count bytes) × (d ≤ count)

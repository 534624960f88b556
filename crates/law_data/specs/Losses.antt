-- Packets of units of which some are lost.
use Rattle.std.specs.Prelude.{ℕ, ◌+◌, ◌≤◌, Bool, true, false, ◌&&◌, not, if◌then◌else◌, List, [], ◌∷◌, length, take, drop}
use Rattle.std.specs.Int.{from_bool}
use Rattle.drm_data.specs.PacketFields.{PacketFields}
use Rattle.drm_data.specs.Units.{most_unit, packet_count}
use Rattle.drm_data.specs.Joining.{JoinerEvent, Received, Gap}

-- units that can be sent
abbrev pub IsUnit : List ℕ → Type 0
IsUnit unit = (1 ≤ length unit) × (length unit ≤ most_unit)

-- what comes: a packet where it is kept, and a gap in place of each that isn't
abbrev pub packet_or_gap : Bool → PacketFields → JoinerEvent
packet_or_gap true p = Received p
packet_or_gap false p = Gap

abbrev pub kept_of : List Bool → List PacketFields → List JoinerEvent
kept_of [] ps = []
kept_of (k ∷ kept) [] = []
kept_of (k ∷ kept) (p ∷ ps) = packet_or_gap k p ∷ kept_of kept ps

abbrev pub all_kept : List Bool → Bool
all_kept [] = true
all_kept (k ∷ kept) = k && all_kept kept

abbrev pub first_kept : List Bool → Bool
first_kept [] = false
first_kept (k ∷ kept) = k

-- the units all of whose packets are kept, in order
abbrev pub whole_units : ℕ → List Bool → List (List ℕ) → List (List ℕ)
whole_units d kept [] = []
whole_units d kept (unit ∷ units) =
    let n = packet_count d (length unit) in
    if all_kept (take n kept) then unit ∷ whole_units d (drop n kept) units else whole_units d (drop n kept) units

-- how many units have lost a packet and not their first
abbrev pub cut_count : ℕ → List Bool → List (List ℕ) → ℕ
cut_count d kept [] = 0
cut_count d kept (unit ∷ units) =
    let n = packet_count d (length unit) in
    from_bool (first_kept (take n kept) && not (all_kept (take n kept))) + cut_count d (drop n kept) units

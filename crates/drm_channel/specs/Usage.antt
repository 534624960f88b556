-- What a configuration uses of a channel, and what there is for it.
use Rattle.std.specs.Prelude.{ℕ, ◌≡◌, ◌≤◌, ◌⊎◌, ◌+◌, ◌-◌, ◌*◌, ◌/◌, ◌==◌, nat_lt, not, ◌&&◌, ◌||◌, Bool, true, if◌then◌else◌, Option, Some, None, option_map, unwrap_or}
use Rattle.drm_channel.specs.declared.setup.Setup.{Setup}
use Rattle.drm_channel.specs.declared.usage.Usage.{Usage}
use Rattle.drm_channel.specs.Cells.{msc_cells}
use Rattle.drm_channel.specs.Rates.{coding_of}
use Rattle.drm_channel.specs.Parts.{cells_for, carried_in_a, carried_in_b, sdc_bytes}

-- The cells that part A takes, none where it has no bytes; there are no cells for it where its protection level has no code rates.
abbrev pub part_a_cells : Setup → Option ℕ
part_a_cells setup =
    if setup.part_a.bytes == 0 then Some 0
    else option_map (λ coding. cells_for coding setup.part_a.bytes) (coding_of setup.constellation setup.part_a.protection)

-- the bits that n cells of part A carry
abbrev pub part_a_carries : Setup → ℕ → ℕ
part_a_carries setup n = unwrap_or (option_map (λ coding. carried_in_a coding n) (coding_of setup.constellation setup.part_a.protection)) 0

-- The bytes for part B, where part A takes n cells: no padding stands between the parts, so what the cells of part A carry beyond its
-- bytes is of part B. Where part A isn't carried there are none.
abbrev pub part_b_room : Setup → Option ℕ → Option ℕ
part_b_room setup None = Some 0
part_b_room setup (Some n) =
    if nat_lt (msc_cells setup.signal) n then Some 0
    else option_map (λ coding. (part_a_carries setup n + carried_in_b coding (msc_cells setup.signal - n)) / 8 - setup.part_a.bytes)
    (coding_of setup.constellation setup.part_b.protection)

abbrev pub usage_of : Setup → Usage
usage_of setup = record {
  cells = msc_cells setup.signal;
  part_a = setup.part_a.bytes;
  part_a_cells = part_a_cells setup;
  part_b = setup.part_b.bytes;
  part_b_room = part_b_room setup (part_a_cells setup);
  sdc = setup.sdc;
  sdc_room = sdc_bytes setup.signal setup.sdc_mode;
}

-- the bits a second of all streams: a frame is 400 ms
abbrev pub rate : Usage → ℕ
rate usage = 20 * (usage.part_a + usage.part_b)

-- more than this, or nothing will do
abbrev pub is_above : ℕ → Option ℕ → Bool
is_above limit None = true
is_above limit (Some n) = nat_lt limit n

-- less than this is there, or nothing
abbrev pub is_below : Option ℕ → ℕ → Bool
is_below None n = true
is_below (Some room) n = nat_lt room n

-- part A takes more cells than there are, or none carry it
abbrev pub is_part_a_over : Usage → Bool
is_part_a_over usage = is_above usage.cells usage.part_a_cells

-- part B has more bytes than are left for it, or none are carried
abbrev pub is_part_b_over : Usage → Bool
is_part_b_over usage = not (usage.part_b == 0) && is_below usage.part_b_room usage.part_b

abbrev pub is_sdc_over : Usage → Bool
is_sdc_over usage = nat_lt usage.sdc_room usage.sdc

-- an SDC block has one length, and this is less
abbrev pub is_sdc_short : Usage → Bool
is_sdc_short usage = nat_lt usage.sdc usage.sdc_room

abbrev pub fits : Usage → Bool
fits usage = not (is_part_a_over usage || is_part_b_over usage || is_sdc_over usage || is_sdc_short usage)

-- It fits: there are cells for part A, there is room for part B or it has no bytes, and the SDC block has the bytes that it must have.
pub record FitsChannel (usage : Usage) : Type 0 where
  pub part_a : (n : ℕ) × (usage.part_a_cells ≡ Some n) × (n ≤ usage.cells)
  pub part_b : (usage.part_b ≡ 0) ⊎ ((room : ℕ) × (usage.part_b_room ≡ Some room) × (usage.part_b ≤ room))
  pub sdc : usage.sdc ≡ usage.sdc_room

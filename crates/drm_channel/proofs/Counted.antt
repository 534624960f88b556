-- The table of cells, counted from the structure of the signal.
use Rattle.std.proofs.Common.{◌≡◌, refl}
use Rattle.drm_channel.specs.declared.signal.Occupancy.{Occupancy}
use Rattle.drm_channel.specs.declared.signal.Occupancy.TheVariants as narrow
use Rattle.drm_channel.specs.declared.signal.WideOccupancy.{WideOccupancy}
use Rattle.drm_channel.specs.declared.signal.WideOccupancy.TheVariants as wide
use Rattle.drm_channel.specs.declared.signal.Signal.{Signal}
use Rattle.drm_channel.specs.declared.signal.Signal.TheVariants.{A, B, C, D}
use Rattle.drm_channel.specs.Cells.{msc_cells, sdc_cells}
use Rattle.drm_channel.specs.Structure.{cells_in, data_cells, counted_msc, counted_sdc}

abbrev pub Counts : Signal → Type 0
Counts signal = (counted_msc signal ≡ msc_cells signal) × (counted_sdc signal ≡ sdc_cells signal)

in_a : (occupancy : Occupancy) → Counts (A occupancy)
unfolding cells_in data_cells
in_a narrow.Khz4_5 = (refl, refl)
in_a narrow.Khz5 = (refl, refl)
in_a narrow.Khz9 = (refl, refl)
in_a narrow.Khz10 = (refl, refl)
in_a narrow.Khz18 = (refl, refl)
in_a narrow.Khz20 = (refl, refl)

in_b : (occupancy : Occupancy) → Counts (B occupancy)
unfolding cells_in data_cells
in_b narrow.Khz4_5 = (refl, refl)
in_b narrow.Khz5 = (refl, refl)
in_b narrow.Khz9 = (refl, refl)
in_b narrow.Khz10 = (refl, refl)
in_b narrow.Khz18 = (refl, refl)
in_b narrow.Khz20 = (refl, refl)

in_c : (occupancy : WideOccupancy) → Counts (C occupancy)
unfolding cells_in data_cells
in_c wide.Khz10 = (refl, refl)
in_c wide.Khz20 = (refl, refl)

in_d : (occupancy : WideOccupancy) → Counts (D occupancy)
unfolding cells_in data_cells
in_d wide.Khz10 = (refl, refl)
in_d wide.Khz20 = (refl, refl)

pub counts : (signal : Signal) → Counts signal
counts (A occupancy) = in_a occupancy
counts (B occupancy) = in_b occupancy
counts (C occupancy) = in_c occupancy
counts (D occupancy) = in_d occupancy

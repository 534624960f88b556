-- How the parts of a multiplex frame and a block of the SDC take cells (ES 201 980, "Building of multiplex frames", "Coding the MSC" and
-- "Coding the SDC").
use Rattle.std.specs.Prelude.{ℕ, ◌≡◌, ◌≤◌, ◌-◌, ◌*◌, ◌/◌, ◌%◌}
use Rattle.std.specs.Int.{div_ceil}
use Rattle.drm_channel.specs.declared.coding.MscCoding.{MscCoding}
use Rattle.drm_channel.specs.declared.signal.Signal.{Signal}
use Rattle.drm_channel.specs.declared.sdc.SdcMode.{SdcMode}
use Rattle.drm_channel.specs.Cells.{sdc_cells}
use Rattle.drm_channel.specs.Rates.{rates_of, multiple_of, carried, sdc_rates}

-- A cell has two coded bits of each level. Twelve of them, in six cells, flush the coders at the end of a frame and of a block.
abbrev pub flushing : ℕ
flushing = 12

-- What n cells of part A carry: they are a multiple of each RY, so nothing is cut.
abbrev pub carried_in_a : MscCoding → ℕ → ℕ
carried_in_a coding n = carried (rates_of coding) (2 * n)

-- what n cells of part B carry, which end the frame
abbrev pub carried_in_b : MscCoding → ℕ → ℕ
carried_in_b coding n = carried (rates_of coding) (2 * n - flushing)

-- the cells of a part A of so many bytes: whole multiples, as many as its bits need
abbrev pub cells_for : MscCoding → ℕ → ℕ
cells_for coding bytes = multiple_of coding * div_ceil (8 * bytes) (carried_in_a coding (multiple_of coding))

-- these cells carry so many bytes as part A, and no fewer do
pub record CarriesLeast (coding : MscCoding) (bytes n : ℕ) : Type 0 where
  pub multiple : n % multiple_of coding ≡ 0
  pub enough : 8 * bytes ≤ carried_in_a coding n
  pub least : (m : ℕ) → m % multiple_of coding ≡ 0 → 8 * bytes ≤ carried_in_a coding m → n ≤ m

-- The bytes of the data field of an SDC block: 20 bits are the AFS index (4) and the check value (16).
abbrev pub sdc_bytes : Signal → SdcMode → ℕ
sdc_bytes signal mode = (carried (sdc_rates mode) (2 * sdc_cells signal - flushing) - 20) / 8

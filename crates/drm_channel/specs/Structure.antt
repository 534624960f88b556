-- How a signal is built (ES 201 980, clause 8): symbols, carriers, and the cells that carry no data.
use Rattle.std.specs.Prelude.{◌≡◌, ℕ, zero, suc, ◌+◌, ◌-◌, ◌*◌, ◌/◌, ◌%◌, ◌==◌, ◌||◌, ◌&&◌, not, Bool, false, List, [], ◌∷◌, if◌then◌else◌, nat_lt, ℤ, pos, ◌+ℤ◌, ◌-ℤ◌, neg_ℤ, nat_abs}
use Rattle.drm_channel.specs.declared.signal.Occupancy.TheVariants as narrow
use Rattle.drm_channel.specs.declared.signal.WideOccupancy.TheVariants as wide
use Rattle.drm_channel.specs.declared.signal.Signal.{Signal}
use Rattle.drm_channel.specs.declared.signal.Signal.TheVariants.{A, B, C, D}
use Rattle.drm_channel.specs.Cells.{msc_cells, sdc_cells}

-- what a robustness mode says of its cells
pub record Structure : Type 0 where
  -- the symbols of a transmission frame, and those of a super frame that hold the SDC
  pub symbols : ℕ
  pub sdc_symbols : ℕ
  -- no carrier has a number below this, nor one above its negative
  pub gap : ℕ
  pub frequency_references : List ℕ
  pub time_references : List ℕ
  -- the gain references of symbol s are the carriers k0 + x (s mod y) + x y p, p a whole number
  pub x : ℕ
  pub y : ℕ
  pub k0 : ℕ

abbrev pub structure_of : Signal → Structure
structure_of (A occupancy) = record {
  symbols = 15;
  sdc_symbols = 2;
  gap = 2;
  frequency_references = 18 ∷ 54 ∷ 72 ∷ [];
  time_references = 17 ∷ 18 ∷ 19 ∷ 21 ∷ 28 ∷ 29 ∷ 32 ∷ 33 ∷ 39 ∷ 40 ∷ 41 ∷ 53 ∷ 54 ∷ 55 ∷ 56 ∷ 60 ∷ 61 ∷ 63 ∷ 71 ∷ 72 ∷ 73 ∷ [];
  x = 4;
  y = 5;
  k0 = 2;
}
structure_of (B occupancy) = record {
  symbols = 15;
  sdc_symbols = 2;
  gap = 1;
  frequency_references = 16 ∷ 48 ∷ 64 ∷ [];
  time_references = 14 ∷ 16 ∷ 18 ∷ 20 ∷ 24 ∷ 26 ∷ 32 ∷ 36 ∷ 42 ∷ 44 ∷ 48 ∷ 49 ∷ 50 ∷ 54 ∷ 56 ∷ 62 ∷ 64 ∷ 66 ∷ 68 ∷ [];
  x = 2;
  y = 3;
  k0 = 1;
}
structure_of (C occupancy) = record {
  symbols = 20;
  sdc_symbols = 3;
  gap = 1;
  frequency_references = 11 ∷ 33 ∷ 44 ∷ [];
  time_references = 8 ∷ 10 ∷ 11 ∷ 12 ∷ 14 ∷ 16 ∷ 18 ∷ 22 ∷ 24 ∷ 28 ∷ 30 ∷ 32 ∷ 33 ∷ 36 ∷ 38 ∷ 42 ∷ 44 ∷ 45 ∷ 46 ∷ [];
  x = 2;
  y = 2;
  k0 = 1;
}
structure_of (D occupancy) = record {
  symbols = 24;
  sdc_symbols = 3;
  gap = 1;
  frequency_references = 7 ∷ 21 ∷ 28 ∷ [];
  time_references = 5 ∷ 6 ∷ 7 ∷ 8 ∷ 9 ∷ 11 ∷ 12 ∷ 14 ∷ 15 ∷ 17 ∷ 18 ∷ 20 ∷ 21 ∷ 23 ∷ 24 ∷ 26 ∷ 27 ∷ 28 ∷ 29 ∷ 30 ∷ 32 ∷ [];
  x = 1;
  y = 3;
  k0 = 1;
}

-- the lowest and the highest carrier
pub record CarrierRange : Type 0 where
  pub lowest : ℤ
  pub highest : ℤ

abbrev minus : ℕ → ℤ
minus n = neg_ℤ (pos n)

abbrev span : ℤ → ℕ → CarrierRange
span low high = record { lowest = low; highest = pos high }

abbrev pub carriers_of : Signal → CarrierRange
carriers_of (A narrow.Khz4_5) = span (pos 2) 102
carriers_of (A narrow.Khz5) = span (pos 2) 114
carriers_of (A narrow.Khz9) = span (minus 102) 102
carriers_of (A narrow.Khz10) = span (minus 114) 114
carriers_of (A narrow.Khz18) = span (minus 98) 314
carriers_of (A narrow.Khz20) = span (minus 110) 350
carriers_of (B narrow.Khz4_5) = span (pos 1) 91
carriers_of (B narrow.Khz5) = span (pos 1) 103
carriers_of (B narrow.Khz9) = span (minus 91) 91
carriers_of (B narrow.Khz10) = span (minus 103) 103
carriers_of (B narrow.Khz18) = span (minus 87) 279
carriers_of (B narrow.Khz20) = span (minus 99) 311
carriers_of (C wide.Khz10) = span (minus 69) 69
carriers_of (C wide.Khz20) = span (minus 67) 213
carriers_of (D wide.Khz10) = span (minus 44) 44
carriers_of (D wide.Khz20) = span (minus 43) 135

-- this carrier is one of these
abbrev pub is_among : ℤ → List ℕ → Bool
is_among k [] = false
is_among k (n ∷ others) = (nat_abs (k -ℤ pos n) == 0) || is_among k others

-- the carrier isn't used
abbrev pub is_unused : Structure → ℤ → Bool
is_unused t k = nat_lt (nat_abs k) t.gap

abbrev pub is_gain_reference : Structure → ℕ → ℤ → Bool
is_gain_reference t s k = nat_abs (k -ℤ pos (t.k0 + t.x * (s % t.y))) % (t.x * t.y) == 0

-- the cell of this symbol and carrier is one of data: of the MSC, the FAC or the SDC
abbrev pub is_data : Structure → ℕ → ℤ → Bool
is_data t s k = not (is_unused t k || is_gain_reference t s k || is_among k t.frequency_references || ((s == 0) && is_among k t.time_references))

-- how many of n carriers from k on hold data in this symbol
unfoldable pub data_cells : Structure → ℕ → ℕ → ℤ → ℕ
data_cells t s zero k = 0
data_cells t s (suc n) k = (if is_data t s k then 1 else 0) + data_cells t s n (k +ℤ pos 1)

-- the data cells of the first n symbols of a frame
unfoldable pub cells_in : Structure → CarrierRange → ℕ → ℕ
cells_in t c zero = 0
cells_in t c (suc n) = data_cells t n (nat_abs (c.highest -ℤ c.lowest) + 1) c.lowest + cells_in t c n

-- the cells of the SDC: the data cells of the first symbols of a super frame
abbrev pub counted_sdc : Signal → ℕ
counted_sdc signal = cells_in (structure_of signal) (carriers_of signal) (structure_of signal).sdc_symbols

-- The cells of the MSC in a multiplex frame: of the data cells of the three frames of a super frame those of the SDC aren't, nor
-- the 65 of the FAC in each frame, and a third of the others is.
abbrev pub counted_msc : Signal → ℕ
counted_msc signal = (3 * cells_in (structure_of signal) (carriers_of signal) (structure_of signal).symbols - counted_sdc signal - 3 * 65) / 3

-- the table of cells counts this
abbrev pub IsCounted : Type 0
IsCounted = (signal : Signal) → (counted_msc signal ≡ msc_cells signal) × (counted_sdc signal ≡ sdc_cells signal)

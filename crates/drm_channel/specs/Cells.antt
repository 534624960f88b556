-- The cells that a signal has for data (ES 201 980, the tables of MSC cells and of SDC cells).
use Rattle.std.specs.Prelude.{ℕ}
use Rattle.drm_channel.specs.declared.signal.Occupancy.TheVariants as narrow
use Rattle.drm_channel.specs.declared.signal.WideOccupancy.TheVariants as wide
use Rattle.drm_channel.specs.declared.signal.Signal.{Signal}
use Rattle.drm_channel.specs.declared.signal.Signal.TheVariants.{A, B, C, D}

-- the cells of the MSC in a multiplex frame, which is 400 ms
abbrev pub msc_cells : Signal → ℕ
msc_cells (A narrow.Khz4_5) = 1259
msc_cells (A narrow.Khz5) = 1422
msc_cells (A narrow.Khz9) = 2632
msc_cells (A narrow.Khz10) = 2959
msc_cells (A narrow.Khz18) = 5464
msc_cells (A narrow.Khz20) = 6118
msc_cells (B narrow.Khz4_5) = 966
msc_cells (B narrow.Khz5) = 1110
msc_cells (B narrow.Khz9) = 2051
msc_cells (B narrow.Khz10) = 2337
msc_cells (B narrow.Khz18) = 4249
msc_cells (B narrow.Khz20) = 4774
msc_cells (C wide.Khz10) = 1844
msc_cells (C wide.Khz20) = 3867
msc_cells (D wide.Khz10) = 1226
msc_cells (D wide.Khz20) = 2606

-- the cells of a block of the SDC, one in each super frame
abbrev pub sdc_cells : Signal → ℕ
sdc_cells (A narrow.Khz4_5) = 167
sdc_cells (A narrow.Khz5) = 190
sdc_cells (A narrow.Khz9) = 359
sdc_cells (A narrow.Khz10) = 405
sdc_cells (A narrow.Khz18) = 754
sdc_cells (A narrow.Khz20) = 846
sdc_cells (B narrow.Khz4_5) = 130
sdc_cells (B narrow.Khz5) = 150
sdc_cells (B narrow.Khz9) = 282
sdc_cells (B narrow.Khz10) = 322
sdc_cells (B narrow.Khz18) = 588
sdc_cells (B narrow.Khz20) = 662
sdc_cells (C wide.Khz10) = 288
sdc_cells (C wide.Khz20) = 607
sdc_cells (D wide.Khz10) = 152
sdc_cells (D wide.Khz20) = 332

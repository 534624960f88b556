-- The codes of the FAC (ES 201 980, "Channel parameters") and what they stand for.
use Rattle.std.specs.Prelude.{ℕ, ◌≡◌, ◌<◌, ◌⊎◌, ◌==◌, Bool, if◌then◌else◌}
use Rattle.drm_fac.specs.declared.mode.Mode.{Mode}
use Rattle.drm_fac.specs.declared.mode.Mode.TheVariants as modes
use Rattle.drm_channel.specs.declared.signal.Occupancy.{Occupancy}
use Rattle.drm_channel.specs.declared.signal.Occupancy.TheVariants as narrow
use Rattle.drm_channel.specs.declared.signal.WideOccupancy.{WideOccupancy}
use Rattle.drm_channel.specs.declared.signal.WideOccupancy.TheVariants as wide
use Rattle.drm_channel.specs.declared.signal.Signal.{Signal}
use Rattle.drm_channel.specs.declared.signal.Signal.TheVariants.{A, B, C, D}
use Rattle.drm_channel.specs.declared.coding.Constellation.{Constellation}
use Rattle.drm_channel.specs.declared.coding.Constellation.TheVariants.{Qam64, Qam16}
use Rattle.drm_channel.specs.declared.coding.Protection.{Protection}
use Rattle.drm_channel.specs.declared.coding.Protection.TheVariants.{Level0, Level1, Level2, Level3}
use Rattle.drm_channel.specs.declared.sdc.SdcMode.{SdcMode}
use Rattle.drm_channel.specs.declared.sdc.SdcMode.TheVariants as sdc

-- the modes C and D have two of the occupancies: 10 and 20 kHz
abbrev pub IsWideCode : ℕ → Type 0
IsWideCode code = (code ≡ 3) ⊎ (code ≡ 5)

-- the mode has an occupancy of this code
abbrev pub HasOccupancy : Mode → ℕ → Type 0
HasOccupancy modes.A code = code < 6
HasOccupancy modes.B code = code < 6
HasOccupancy modes.C code = IsWideCode code
HasOccupancy modes.D code = IsWideCode code

-- 0 to 5: 4.5, 5, 9, 10, 18 and 20 kHz
abbrev pub occupancy_of : ℕ → Occupancy
occupancy_of code =
    if code == 0 then narrow.Khz4_5
    else if code == 1 then narrow.Khz5
    else if code == 2 then narrow.Khz9
    else if code == 3 then narrow.Khz10
    else if code == 4 then narrow.Khz18
    else narrow.Khz20

abbrev pub wide_occupancy_of : ℕ → WideOccupancy
wide_occupancy_of code = if code == 3 then wide.Khz10 else wide.Khz20

abbrev pub signal_of : Mode → ℕ → Signal
signal_of modes.A code = A (occupancy_of code)
signal_of modes.B code = B (occupancy_of code)
signal_of modes.C code = C (wide_occupancy_of code)
signal_of modes.D code = D (wide_occupancy_of code)

-- the constellations without hierarchy: 0 is 64-QAM, and 3 is 16-QAM
abbrev pub IsPlainCode : ℕ → Type 0
IsPlainCode code = (code ≡ 0) ⊎ (code ≡ 3)

abbrev pub constellation_of : ℕ → Constellation
constellation_of code = if code == 0 then Qam64 else Qam16

-- the protection levels 0 to 3
abbrev pub protection_of : ℕ → Protection
protection_of code =
    if code == 0 then Level0
    else if code == 1 then Level1
    else if code == 2 then Level2
    else Level3

abbrev pub sdc_mode_of : Bool → SdcMode
sdc_mode_of is_4_qam = if is_4_qam then sdc.Qam4 else sdc.Qam16

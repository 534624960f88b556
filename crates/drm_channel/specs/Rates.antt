-- The code rates (ES 201 980, "Coding the MSC" and "Coding the SDC"), and what coded bits carry.
use Rattle.std.specs.Prelude.{ℕ, ◌≡◌, ◌≤◌, ◌*◌, ◌/◌, ◌%◌, List, [], ◌∷◌, Option, Some, None, sum_by}
use Rattle.drm_channel.specs.declared.coding.Constellation.{Constellation}
use Rattle.drm_channel.specs.declared.coding.Constellation.TheVariants.{Qam64, Qam16}
use Rattle.drm_channel.specs.declared.coding.Protection.{Protection}
use Rattle.drm_channel.specs.declared.coding.Protection.TheVariants.{Level0, Level1, Level2, Level3}
use Rattle.drm_channel.specs.declared.coding.MscCoding.{MscCoding}
use Rattle.drm_channel.specs.declared.coding.MscCoding.TheVariants.{Qam64Level0, Qam64Level1, Qam64Level2, Qam64Level3, Qam16Level0, Qam16Level1}
use Rattle.drm_channel.specs.declared.sdc.SdcMode.{SdcMode}
use Rattle.drm_channel.specs.declared.sdc.SdcMode.TheVariants as sdc

-- the rate RX / RY: RX bits are coded as RY
pub record Rate : Type 0 where
  pub rx : ℕ
  pub ry : ℕ

abbrev rate : ℕ → ℕ → Rate
rate rx ry = record { rx = rx; ry = ry }

-- in 16-QAM two protection levels have code rates
abbrev pub coding_of : Constellation → Protection → Option MscCoding
coding_of Qam64 Level0 = Some Qam64Level0
coding_of Qam64 Level1 = Some Qam64Level1
coding_of Qam64 Level2 = Some Qam64Level2
coding_of Qam64 Level3 = Some Qam64Level3
coding_of Qam16 Level0 = Some Qam16Level0
coding_of Qam16 Level1 = Some Qam16Level1
coding_of Qam16 _ = None

-- the rates of the levels 0, 1 and 2 of 64-QAM, and of the levels 0 and 1 of 16-QAM
abbrev pub rates_of : MscCoding → List Rate
rates_of Qam64Level0 = rate 1 4 ∷ rate 1 2 ∷ rate 3 4 ∷ []
rates_of Qam64Level1 = rate 1 3 ∷ rate 2 3 ∷ rate 4 5 ∷ []
rates_of Qam64Level2 = rate 1 2 ∷ rate 3 4 ∷ rate 7 8 ∷ []
rates_of Qam64Level3 = rate 2 3 ∷ rate 4 5 ∷ rate 8 9 ∷ []
rates_of Qam16Level0 = rate 1 3 ∷ rate 2 3 ∷ []
rates_of Qam16Level1 = rate 1 2 ∷ rate 3 4 ∷ []

-- the least common multiple of all RY of the levels
abbrev pub multiple_of : MscCoding → ℕ
multiple_of Qam64Level0 = 4
multiple_of Qam64Level1 = 15
multiple_of Qam64Level2 = 8
multiple_of Qam64Level3 = 45
multiple_of Qam16Level0 = 3
multiple_of Qam16Level1 = 4

-- this is a multiple of each RY
abbrev pub IsMultiple : List Rate → ℕ → Type 0
IsMultiple [] n = Unit {0}
IsMultiple (r ∷ rates) n = (n % r.ry ≡ 0) × IsMultiple rates n

-- and the least one above 0
pub record IsLeastMultiple (rates : List Rate) (n : ℕ) : Type 0 where
  pub some : 1 ≤ n
  pub multiple : IsMultiple rates n
  pub least : (m : ℕ) → 1 ≤ m → IsMultiple rates m → n ≤ m

-- What so many coded bits of each level carry: at each rate RX bits for each whole RY.
abbrev pub carried : List Rate → ℕ → ℕ
carried rates bits = sum_by (λ (r : Rate). r.rx * (bits / r.ry)) rates

-- the rates of the SDC: 4-QAM has one level, 16-QAM two
abbrev pub sdc_rates : SdcMode → List Rate
sdc_rates sdc.Qam16 = rate 1 3 ∷ rate 2 3 ∷ []
sdc_rates sdc.Qam4 = rate 1 2 ∷ []

-- Units in a file: each is its length in four bytes, and its bytes (this project's own profile).
use Rattle.std.specs.Prelude.{ℕ, ◌≡◌, ◌+◌, ◌<◌, ◌≤◌, ◌⊎◌, List, [], ◌∷◌, ◌++◌, length, take, Result, Ok, Err}
use Rattle.std.specs.Int.{w32, from_be_bytes}
use Rattle.drm_data.specs.Units.{most_unit}
use Rattle.law_data.specs.Losses.{IsUnit}
use Rattle.cmd_faults.specs.declared.units.UnitsReason.{UnitsReason}
use Rattle.cmd_faults.specs.declared.units.UnitsReason.TheVariants.{Empty, TooLong, Cut}
use Rattle.cmd_faults.specs.declared.units.UnitsFault.{UnitsFault}

-- the most bytes of a file
abbrev pub most_bytes : ℕ
most_bytes = 16777216

-- The bytes begin with this unit, and these stand behind it.
pub record BeginsWith (unit rest bytes : List ℕ) : Type 0 where
  pub head : List ℕ
  pub four : length head ≡ 4
  pub says : from_be_bytes w32 head ≡ length unit
  pub is_unit : IsUnit unit
  pub all : bytes ≡ head ++ (unit ++ rest)

-- The bytes are these units, and behind them the rest.
abbrev pub AreUnits : List (List ℕ) → List ℕ → List ℕ → Type 0
AreUnits [] rest bytes = bytes ≡ rest
AreUnits (unit ∷ units) rest bytes = (more : List ℕ) × BeginsWith unit more bytes × AreUnits units rest more

-- the length that stands at the front
abbrev pub said_length : List ℕ → ℕ
said_length bytes = from_be_bytes w32 (take 4 bytes)

-- What is wrong at the front of these bytes, which aren't all of a file's units.
abbrev pub IsWrongUnit : UnitsReason → List ℕ → Type 0
IsWrongUnit Empty bytes = (4 ≤ length bytes) × (said_length bytes ≡ 0)
IsWrongUnit TooLong bytes = (4 ≤ length bytes) × (most_unit < said_length bytes)
IsWrongUnit Cut bytes =
    (1 ≤ length bytes)
    × ((length bytes < 4) ⊎ ((1 ≤ said_length bytes) × (said_length bytes ≤ most_unit) × (length bytes < 4 + said_length bytes)))

-- the file goes on behind the most bytes
abbrev pub IsTooMuch : UnitsFault → List ℕ → Type 0
IsTooMuch fault bytes = (most_bytes < length bytes) × (fault ≡ record { at = most_bytes; reason = TooLong })

-- something is wrong at this byte, behind units that are right
pub record IsWrongAt (fault : UnitsFault) (bytes : List ℕ) : Type 0 where
  pub units : List (List ℕ)
  pub rest : List ℕ
  pub are : AreUnits units rest bytes
  pub at : fault.at + length rest ≡ length bytes
  pub wrong : IsWrongUnit fault.reason rest

-- What the bytes of a file come to: units, or the first fault.
abbrev pub UnitsComeTo : List ℕ → Result (List (List ℕ)) UnitsFault → Type 0
UnitsComeTo bytes (Ok units) = (length bytes ≤ most_bytes) × AreUnits units [] bytes
UnitsComeTo bytes (Err fault) = IsTooMuch fault bytes ⊎ ((length bytes ≤ most_bytes) × IsWrongAt fault bytes)

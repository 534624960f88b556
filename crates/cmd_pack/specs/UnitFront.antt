-- The front of a file's bytes, as the code has it.
use Rattle.std.specs.Prelude.{ℕ, ◌≡◌, ◌<◌, ◌≤◌, List, [], ◌++◌, length, Result, Ok, Err}
use Rattle.drm_data.specs.Units.{most_unit}
use Rattle.cmd_faults.specs.declared.units.UnitsReason.TheVariants.{Empty, TooLong, Cut}
use Rattle.cmd_faults.specs.declared.fault.Fault.{Fault}
use Rattle.cmd_faults.specs.declared.fault.Fault.TheVariants.{Units}
use Rattle.cmd_pack.specs.declared.units.UnitFront.{UnitFront}
use Rattle.cmd_pack.specs.declared.units.UnitFront.TheVariants.{End, Unit as OneUnit, Wrong}
use Rattle.cmd_pack.specs.Units.{BeginsWith, IsWrongUnit, AreUnits, IsWrongAt}

-- what stands at the front of bytes
abbrev pub IsFrontOf : List ℕ → UnitFront → Type 0
IsFrontOf bytes End = bytes ≡ []
IsFrontOf bytes (OneUnit unit rest) = BeginsWith unit.now rest.now bytes
IsFrontOf bytes (Wrong reason) = IsWrongUnit reason bytes

-- what stands behind a length
abbrev pub IsCutOf : ℕ → List ℕ → UnitFront → Type 0
IsCutOf len behind End = ⊥
IsCutOf len behind (OneUnit unit rest) = (1 ≤ len) × (len ≤ most_unit) × (length unit.now ≡ len) × (behind ≡ unit.now ++ rest.now)
IsCutOf len behind (Wrong Empty) = len ≡ 0
IsCutOf len behind (Wrong TooLong) = most_unit < len
IsCutOf len behind (Wrong Cut) = (1 ≤ len) × (len ≤ most_unit) × (length behind < len)

-- the first fault of the bytes, or none
abbrev pub FindsFault : List ℕ → Result (Unit {0}) Fault → Type 0
FindsFault bytes (Ok done) = (units : List (List ℕ)) × AreUnits units [] bytes
FindsFault bytes (Err (Units fault)) = IsWrongAt fault bytes
FindsFault bytes (Err fault) = ⊥

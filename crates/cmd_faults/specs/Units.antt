-- The line of what is wrong with the units of an input.
use Rattle.std.specs.Prelude.{List, ℕ, [], ◌∷◌, codes, decimal}
use Rattle.std.specs.List.{concat}
use Rattle.cmd_faults.specs.declared.units.UnitsReason.{UnitsReason}
use Rattle.cmd_faults.specs.declared.units.UnitsReason.TheVariants.{Empty, TooLong, Cut}
use Rattle.cmd_faults.specs.declared.units.UnitsFault.{UnitsFault}

abbrev pub units_word : UnitsReason → List ℕ
units_word Empty = codes "empty"
units_word TooLong = codes "too-long"
units_word Cut = codes "cut"

-- the first byte of the unit, and what is wrong there
abbrev pub units_line : UnitsFault → List ℕ
units_line fault = concat (codes "drmcast: units byte " ∷ decimal fault.at ∷ codes ": " ∷ units_word fault.reason ∷ codes "\n" ∷ [])

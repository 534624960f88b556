-- Forty-eight elements in lanes.
use Rattle.std.specs.Prelude.{ℕ, List, ◌++◌}
use Rattle.rs_erase.specs.declared.row.Row.{Row}

-- the elements of a row, one after another
abbrev pub listed : Row → List ℕ
listed row = row.first ++ (row.second ++ row.third)

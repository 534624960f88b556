-- The fault of a line, of which one is known and another was found.
use Rattle.std.specs.Prelude.{Option, Some, None}
use Rattle.plan_rows.specs.declared.fault.Wrong.{Wrong}
use Rattle.plan_rows.specs.declared.fault.Wrong.TheVariants.{Word, Number, Range}

-- the one that comes first in the order of faults
abbrev pub worse : Wrong → Wrong → Wrong
worse Word x = Word
worse Number Word = Word
worse Number Number = Number
worse Number Range = Number
worse Range x = x

abbrev pub first_wrong : Option Wrong → Wrong → Wrong
first_wrong None x = x
first_wrong (Some w) x = worse w x

-- What a function returned is what reading gives, unless memory ran out.
use Rattle.std.specs.Prelude.{◌≡◌, List, Result, Ok, Err, Vec}
use Rattle.plan_rows.specs.declared.fault.Wrong.{Wrong}
use Rattle.std.specs.declared.alloc.Global.{Global}
use Rattle.plan_rows.specs.declared.value.LineValue.{LineValue}
use Rattle.plan_rows.specs.declared.fault.RowFault.{RowFault}
use Rattle.plan_rows.specs.declared.fault.RowFault.TheVariants.{NoMemory, Broken}

abbrev pub FailsAs : {X : Type 0} → RowFault → Result X Wrong → Type 0
FailsAs NoMemory read = Unit {0}
FailsAs (Broken wrong) read = read ≡ Err wrong

abbrev pub GivesValue : {X : Type 0} → Result X RowFault → Result X Wrong → Type 0
GivesValue (Ok x) read = read ≡ Ok x
GivesValue (Err fault) read = FailsAs fault read

abbrev pub GivesValues : Result (Vec LineValue Global) RowFault → Result (List LineValue) Wrong → Type 0
GivesValues (Ok values) read = read ≡ Ok values.items
GivesValues (Err fault) read = FailsAs fault read

-- what is said of a fault of the line itself
abbrev pub OnBroken : RowFault → (Wrong → Type 0) → Type 0
OnBroken NoMemory says = Unit {0}
OnBroken (Broken wrong) says = says wrong

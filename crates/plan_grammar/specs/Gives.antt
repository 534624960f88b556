-- What a function returned is what reading gives, unless memory ran out.
use Rattle.std.specs.Prelude.{◌≡◌, Result, Ok, Err}
use Rattle.drm_schedule.specs.declared.invalid.Reason.{Reason}
use Rattle.plan_grammar.specs.declared.fault.LineFault.{LineFault}
use Rattle.plan_grammar.specs.declared.fault.LineFault.TheVariants.{NoMemory, Broken}

abbrev pub ReaderFails : {X : Type 0} → LineFault → Result X Reason → Type 0
ReaderFails NoMemory read = Unit {0}
ReaderFails (Broken reason) read = read ≡ Err reason

abbrev pub ReaderGives : {X : Type 0} → Result X LineFault → Result X Reason → Type 0
ReaderGives (Ok x) read = read ≡ Ok x
ReaderGives (Err fault) read = ReaderFails fault read

-- what is said of a fault of the line itself
abbrev pub OnBroken : LineFault → (Reason → Type 0) → Type 0
OnBroken NoMemory says = Unit {0}
OnBroken (Broken reason) says = says reason

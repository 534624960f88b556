-- An answer that may fail for want of memory.
use Rattle.std.specs.Prelude.{◌≡◌, Option, Some, None, Result, Ok, Err}
use Rattle.cli_syntax.specs.declared.fault.WordsFault.{WordsFault}
use Rattle.cli_syntax.specs.declared.fault.WordsFault.TheVariants.{Words, NoMemory}

-- the answer shows the value that is read, or refuses since there is none
abbrev pub GivesBy : {A B : Type 0} → (A → B) → Result A WordsFault → Option B → Type 0
GivesBy view (Ok x) read = read ≡ Some (view x)
GivesBy view (Err Words) read = read ≡ None
GivesBy view (Err NoMemory) read = Unit {0}

abbrev pub ParserGives : {A : Type 0} → Result A WordsFault → Option A → Type 0
ParserGives result read = GivesBy (λ x. x) result read

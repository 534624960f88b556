-- The faults of a run.
use Rattle.std.specs.Prelude.{ℕ, ◌+◌, List, [], ◌∷◌, codes, decimal, Bool, Result, Ok, Err}
use Rattle.std.specs.List.{concat}
use Rattle.cmd_faults.specs.Fault.{clean_status}
use Rattle.cmd_paths.specs.declared.fault.PathsFault.{PathsFault}
use Rattle.cmd_paths.specs.declared.fault.PathsFault.TheVariants.{NoMemory, Words, Write, Link, Differs}

abbrev pub fault_status : PathsFault → ℕ
fault_status NoMemory = 1
fault_status Words = 2
fault_status Write = 5
fault_status Link = 6
fault_status (Differs path at) = 8

-- the line of a fault
abbrev pub fault_line : PathsFault → List ℕ
fault_line NoMemory = codes "drmpaths: no memory\n"
fault_line Words = codes "drmpaths: words\n"
fault_line Write = codes "drmpaths: write fault\n"
fault_line Link = codes "drmpaths: link fault\n"
fault_line (Differs path at) = concat (codes "drmpaths: path " ∷ decimal (path + 1) ∷ codes " entry " ∷ decimal at ∷ codes " differs\n" ∷ [])

abbrev pub status_of : Result Bool PathsFault → ℕ
status_of (Ok clean) = clean_status clean
status_of (Err fault) = fault_status fault

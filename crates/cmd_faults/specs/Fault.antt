-- How a run ends: as it should, or with a fault, which has a status and a line.
use Rattle.std.specs.Prelude.{ℕ, ◌≡◌, ◌⊎◌, Bool, true, false, List, Result, Ok, Err}
use Rattle.drm_links.specs.Known.{Known, HasFailed}
use Rattle.drm_links.specs.Sink.{Output, OutputsText, IsPrefix}
use Rattle.cmd_faults.specs.Lines.{fault_line}
use Rattle.cmd_faults.specs.declared.fault.Fault.{Fault}
use Rattle.cmd_faults.specs.declared.fault.Fault.TheVariants.{NoMemory, Words, FacLength, FacOver, FacCrc, Schedule, Script, Capture, CaptureTooLong, PacketSize, Units, Read, Write, Link}

abbrev pub fault_status : Fault → ℕ
fault_status NoMemory = 1
fault_status Words = 2
fault_status (FacLength n) = 3
fault_status FacOver = 3
fault_status (FacCrc stands computed) = 3
fault_status (Schedule line reason) = 3
fault_status (Script line reason) = 3
fault_status (Capture fault) = 3
fault_status CaptureTooLong = 3
fault_status (PacketSize packet) = 3
fault_status (Units fault) = 3
fault_status Read = 4
fault_status Write = 5
fault_status Link = 6

abbrev pub status_of : Result (Unit {0}) Fault → ℕ
status_of (Ok done) = 0
status_of (Err fault) = fault_status fault

-- done, whether each frame that the run tells of was given or not
abbrev pub done_of : Result Bool Fault → Result (Unit {0}) Fault
done_of (Ok clean) = Ok tt
done_of (Err fault) = Err fault

-- the end of a run that tells of no frames
abbrev pub whole_of : Result (Unit {0}) Fault → Result Bool Fault
whole_of (Ok done) = Ok true
whole_of (Err fault) = Err fault

-- P, unless the run ends for want of memory
abbrev pub UnlessMemory : {T : Type 0} → Result T Fault → Type 0 → Type 0
UnlessMemory ending P = (ending ≡ Err NoMemory) ⊎ P

abbrev pub clean_status : Bool → ℕ
clean_status true = 0
clean_status false = 7

abbrev pub report_status : Result Bool Fault → ℕ
report_status (Ok clean) = clean_status clean
report_status (Err fault) = fault_status fault

-- The line is written, or where a call failed a front of it.
pub record WritesLine {E : Type 0} (line : List ℕ) (known : E → Known Output) (old new : E) : Type 0 where
  pub front : OutputsText (known old) (known new) (IsPrefix line)
  pub whole : (HasFailed (known old) (known new) → ⊥) → OutputsText (known old) (known new) (λ text. text ≡ line)

-- What a run writes to err: the line of its fault, and else nothing.
abbrev pub ReportsFault : {E : Type 0} → Result (Unit {0}) Fault → (E → Known Output) → E → E → Type 0
ReportsFault (Ok done) known old new = new ≡ old
ReportsFault (Err fault) known old new = WritesLine (fault_line fault) known old new

-- The same where `err_ok` holds; else err is as it was.
abbrev pub ReportsIf : {E : Type 0} → Bool → Result (Unit {0}) Fault → (E → Known Output) → E → E → Type 0
ReportsIf true done known old new = ReportsFault done known old new
ReportsIf false done known old new = new ≡ old

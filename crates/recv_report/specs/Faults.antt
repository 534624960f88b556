-- Which call failed where a report isn't whole.
use Rattle.std.specs.Prelude.{Result, Ok, Err}
use Rattle.capture_reader.specs.declared.packets.CaptureStop.TheVariants as stops
use Rattle.recv_reading.specs.declared.source.SourceFault.TheVariants as faults
use Rattle.recv_report.specs.declared.reading.ReceiveFault.{ReceiveFault}
use Rattle.recv_report.specs.declared.reading.ReceiveFault.TheVariants as fault

-- a call of what is read failed
abbrev pub IsCallFailed : {T : Type 0} → Result T ReceiveFault → Type 0
IsCallFailed (Ok done) = ⊥
IsCallFailed (Err (fault.Source faults.Link)) = Unit {0}
IsCallFailed (Err (fault.Source (faults.Capture stops.Read))) = Unit {0}
IsCallFailed (Err (fault.Source (faults.Capture other))) = ⊥
IsCallFailed (Err fault.Write) = ⊥
IsCallFailed (Err fault.NoMemory) = ⊥

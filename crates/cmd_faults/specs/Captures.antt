-- The line of what is wrong with a capture, and the faults of a run that reads one.
use Rattle.std.specs.Prelude.{List, ℕ, ◌≡◌, [], ◌∷◌, Bool, Result, Err, codes, decimal}
use Rattle.std.specs.List.{concat}
use Rattle.capture_reader.specs.declared.fault.CaptureField.{CaptureField}
use Rattle.capture_reader.specs.declared.fault.CaptureField.TheVariants.{Sync, HeadCrc, TooLarge, HeadCut, BodyCut}
use Rattle.capture_reader.specs.declared.fault.CaptureFault.{CaptureFault}
use Rattle.capture_reader.specs.declared.packets.CaptureStop.{CaptureStop}
use Rattle.capture_reader.specs.declared.packets.CaptureStop.TheVariants as stops
use Rattle.capture_reader.specs.Capture as capture
use Rattle.cmd_faults.specs.declared.fault.Fault.{Fault}
use Rattle.cmd_faults.specs.declared.fault.Fault.TheVariants as faults

abbrev pub field_word : CaptureField → List ℕ
field_word Sync = codes "sync"
field_word HeadCrc = codes "head-crc"
field_word TooLarge = codes "too-large"
field_word HeadCut = codes "head-cut"
field_word BodyCut = codes "body-cut"

-- the byte of the packet, and what is wrong there
abbrev pub capture_line : CaptureFault → List ℕ
capture_line fault = concat (codes "drmcast: capture byte " ∷ decimal fault.at ∷ codes ": " ∷ field_word fault.field ∷ codes "\n" ∷ [])

-- the fault of a run whose capture is read no further
abbrev pub stop_fault : CaptureStop → Fault
stop_fault stops.Read = faults.Read
stop_fault (stops.Capture fault) = faults.Capture fault
stop_fault stops.TooLong = faults.CaptureTooLong

-- How a run that reads a capture from input and writes to out can end early, where S says whether it can by the size of a packet.
abbrev pub EndsEarlyOr : Type 0 → Fault → Type 0
EndsEarlyOr S faults.NoMemory = Unit {0}
EndsEarlyOr S (faults.Capture fault) = Unit {0}
EndsEarlyOr S faults.CaptureTooLong = Unit {0}
EndsEarlyOr S faults.Read = Unit {0}
EndsEarlyOr S faults.Write = Unit {0}
EndsEarlyOr S (faults.PacketSize number) = S
EndsEarlyOr S fault = ⊥

-- by no packet's size
abbrev pub EndsEarly : Fault → Type 0
EndsEarly fault = EndsEarlyOr ⊥ fault

-- the run ends by what is wrong behind the packets
abbrev pub EndsByIt : Result Bool Fault → capture.CaptureEnding → Type 0
EndsByIt ending capture.End = ⊥
EndsByIt ending (capture.Fault fault) = ending ≡ Err (faults.Capture fault)
EndsByIt ending capture.TooLong = ending ≡ Err faults.CaptureTooLong

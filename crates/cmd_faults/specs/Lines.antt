-- The lines that the program prints.
use Rattle.std.specs.Prelude.{ℕ, List, [], ◌∷◌, codes, decimal}
use Rattle.std.specs.List.{concat}
use Rattle.cmd_faults.specs.CrcLine.{crc_line}
use Rattle.cmd_faults.specs.Captures.{capture_line}
use Rattle.cmd_faults.specs.Units.{units_line}
use Rattle.cmd_faults.specs.Reasons.{reason_word, schedule_line, script_line}
use Rattle.cmd_faults.specs.declared.fault.Fault.{Fault}
use Rattle.cmd_faults.specs.declared.fault.Fault.TheVariants.{NoMemory, Words, FacLength, FacOver, FacCrc, Schedule, Script, Capture, CaptureTooLong, PacketSize, Units, Read, Write, Link}

-- the line of a fault
abbrev pub fault_line : Fault → List ℕ
fault_line NoMemory = codes "drmcast: no memory\n"
fault_line Words = codes "drmcast: words\n"
fault_line (FacLength bytes) = concat (codes "drmcast: fac length " ∷ decimal bytes ∷ codes "\n" ∷ [])
fault_line FacOver = codes "drmcast: fac length over 9\n"
fault_line (FacCrc stands computed) = crc_line (stands ∷ []) (computed ∷ [])
fault_line (Schedule line reason) = schedule_line line (reason_word reason)
fault_line (Script line reason) = script_line line (reason_word reason)
fault_line (Capture fault) = capture_line fault
fault_line CaptureTooLong = codes "drmcast: capture byte 4294967295: too-long\n"
fault_line (PacketSize packet) = concat (codes "drmcast: packet " ∷ decimal packet ∷ codes ": packet-size\n" ∷ [])
fault_line (Units fault) = units_line fault
fault_line Read = codes "drmcast: read fault\n"
fault_line Write = codes "drmcast: write fault\n"
fault_line Link = codes "drmcast: link fault\n"

-- How the conversion of the packets of an input ends.
use Rattle.std.specs.Prelude.{Bool, true, Result, Ok, Err}
use Rattle.dcp_pft.specs.declared.carry.Carry.{Carry}
use Rattle.drm_links.specs.Known.{Known}
use Rattle.drm_links.specs.Source.{Input}
use Rattle.drm_links.specs.Sink.{Output}
use Rattle.cmd_faults.specs.Captures.{stop_fault}
use Rattle.cmd_faults.specs.declared.fault.Fault.{Fault}
use Rattle.cmd_faults.specs.declared.fault.Fault.TheVariants as faults
use Rattle.cmd_convert.specs.declared.item.ItemError.TheVariants as halt
use Rattle.cmd_convert.specs.declared.naming.Progress.{Progress}
use Rattle.cmd_convert.specs.declared.reading.ConvertError.{ConvertError}
use Rattle.cmd_convert.specs.declared.reading.ConvertError.TheVariants as unconverted
use Rattle.cmd_convert.specs.Run.{ConvertEnds}
use Rattle.recv_reading.specs.declared.options.PacketRange.{PacketRange}

abbrev pub new_progress : Progress
new_progress = record { given = 0; clean = true; err_ok = true }

-- the fault that stops it
abbrev pub fault_of : ConvertError → Fault
fault_of (unconverted.Stopped stop) = stop_fault stop
fault_of (unconverted.Halted halt.Write) = faults.Write
fault_of (unconverted.Halted (halt.PacketSize number)) = faults.PacketSize number

-- how a run ends whose conversion ends so
abbrev pub ending_of : Result (Unit {0}) ConvertError → Bool → Result Bool Fault
ending_of (Ok _) clean = Ok clean
ending_of (Err why) clean = Err (fault_of why)

abbrev pub ConversionEndsBy : Result (Unit {0}) ConvertError → PacketRange → Carry → Progress → Known Input → Known Input → Known Output → Known Output → Known Output → Known Output → Type 0
ConversionEndsBy result range carry p before after out out' err err' = ConvertEnds range carry (ending_of result p.clean) p.err_ok before after out out' err err'

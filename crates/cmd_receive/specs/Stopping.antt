-- How a run ends whose receivers end so.
use Rattle.std.specs.Prelude.{Bool, Result, Ok, Err}
use Rattle.recv_report.specs.declared.stop.ReceiveError.{ReceiveError}
use Rattle.recv_report.specs.declared.stop.ReceiveError.TheVariants as stops
use Rattle.report_text.specs.Totals.{are_clean}
use Rattle.report_text.specs.declared.totals.Totals.{Totals}
use Rattle.recv_report.specs.declared.capture.CaptureReportError.{CaptureReportError}
use Rattle.recv_report.specs.declared.capture.CaptureReportError.TheVariants as unfinished
use Rattle.cmd_faults.specs.Captures.{stop_fault}
use Rattle.cmd_faults.specs.declared.fault.Fault.{Fault}
use Rattle.cmd_faults.specs.declared.fault.Fault.TheVariants as faults

abbrev pub ending_of : Result Bool ReceiveError → Result Bool Fault
ending_of (Ok clean) = Ok clean
ending_of (Err stops.Link) = Err faults.Link
ending_of (Err stops.Write) = Err faults.Write
ending_of (Err stops.NoMemory) = Err faults.NoMemory

-- the totals of a run whose one receiver ends so
abbrev pub live_totals : Result Totals ReceiveError → Result Totals Fault
live_totals (Ok totals) = Ok totals
live_totals (Err stops.Link) = Err faults.Link
live_totals (Err stops.Write) = Err faults.Write
live_totals (Err stops.NoMemory) = Err faults.NoMemory

-- the totals of a run whose receiver of a capture ends so
abbrev pub captured_totals : Result Totals CaptureReportError → Result Totals Fault
captured_totals (Ok totals) = Ok totals
captured_totals (Err (unfinished.Stopped stop)) = Err (stop_fault stop)
captured_totals (Err unfinished.Write) = Err faults.Write
captured_totals (Err unfinished.NoMemory) = Err faults.NoMemory

-- how a run ends that has these totals
abbrev pub clean_ending : Result Totals Fault → Result Bool Fault
clean_ending (Ok totals) = Ok (are_clean totals)
clean_ending (Err fault) = Err fault

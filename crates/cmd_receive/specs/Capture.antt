-- The command `receive` without addresses: the report of a capture, which is written as the capture is read from input.
use Rattle.std.specs.Prelude.{ℕ, ◌≡◌, ◌↔◌, Bool, true, List, Result, Ok, Err}
use Rattle.drm_links.specs.Known.{HasFailed, Known, HasCause}
use Rattle.drm_links.specs.Link.{Answer}
use Rattle.drm_links.specs.Source.{Input, InputsBytes}
use Rattle.drm_links.specs.Sink.{Output, OutputsText}
use Rattle.capture_reader.specs.declared.packets.CaptureStop.TheVariants as stops
use Rattle.capture_reader.specs.Capture as capture
use Rattle.recv_reading.specs.declared.options.ReceiveOptions.{ReceiveOptions}
use Rattle.recv_report.specs.Received.{ReportWritten, ReportBroken, ReportStopped}
use Rattle.report_text.specs.Reports.{Report}
use Rattle.recv_reading.specs.OneReading.{BreaksOff}
use Rattle.recv_report.specs.Ahead.{IsInTimeAhead, IsReportOf}
use Rattle.recv_reading.specs.Source.{answers_of, BytesBring, HeardOf, HeardUntil}
use Rattle.cmd_faults.specs.Captures.{EndsEarly, EndsByIt}
use Rattle.cmd_faults.specs.Fault.{UnlessMemory}
use Rattle.cmd_faults.specs.declared.fault.Fault.{Fault}
use Rattle.cmd_faults.specs.declared.fault.Fault.TheVariants as faults

-- The bytes end so behind their packets, and what comes of the packets doesn't finish the reading.
pub record BreaksOffBy (rules : ReceiveOptions) (bytes : List ℕ) (ending : capture.CaptureEnding) : Type 0 where
  pub packets : List (List ℕ)
  pub is : capture.IsCaptureOf bytes packets ending
  pub breaks : BreaksOff rules (answers_of packets ending)

-- What is read and written: enough packets, or all, and their report; after a failed write all that was given before the last
-- of them, and a front of what that one made ready; where no more can be read, what the packets before it give; where memory is
-- wanting, nothing.
abbrev pub CaptureReportEnds : ReceiveOptions → Result Bool Fault → Known Input → Known Input → Known Output → Known Output → Type 0
CaptureReportEnds rules (Ok clean) before after out out' = ReportWritten rules 1 (HeardOf before after) out out' clean
CaptureReportEnds rules (Err faults.Write) before after out out' = ReportStopped rules 1 (HeardOf before after) out out'
CaptureReportEnds rules (Err faults.Read) before after out out' = ReportBroken rules 1 (HeardUntil stops.Read before after) out out'
CaptureReportEnds rules (Err (faults.Capture fault)) before after out out' = ReportBroken rules 1 (HeardUntil (stops.Capture fault) before after) out out'
CaptureReportEnds rules (Err faults.CaptureTooLong) before after out out' = ReportBroken rules 1 (HeardUntil stops.TooLong before after) out out'
CaptureReportEnds rules (Err faults.NoMemory) before after out out' = (after ≡ before) × (out' ≡ out)
CaptureReportEnds rules (Err fault) before after out out' = ⊥

-- The report of what these bytes bring is written, where they were left of the input.
abbrev pub WritesReport : {O : Type 0} → ReceiveOptions → List ℕ → Bool → (O → Known Output) → O → O → Type 0
WritesReport rules left clean known out out' =
    (ahead : List Answer) × BytesBring left ahead
    × (r : Report) × IsReportOf rules 1 ahead r × OutputsText (known out) (known out') (λ text. text ≡ r.text) × (clean ≡ r.clean)

-- The run is done, and the report is written.
abbrev pub WroteReport : {O : Type 0} → ReceiveOptions → List ℕ → Result Bool Fault → (O → Known Output) → O → O → Type 0
WroteReport rules left ending known out out' = (clean : Bool) × (ending ≡ Ok clean) × WritesReport rules left clean known out out'

-- A run of `receive` without addresses.
pub record CaptureRun {I O : Type 0} (rules : ReceiveOptions) (ending : Result Bool Fault)
    (input_known : I → Known Input) (input input' : I)
    (out_known : O → Known Output) (out out' : O) : Type 0 where
  -- It ends well, or for want of memory, by a fault of the capture, by a failed read or by a failed write.
  pub kind : (fault : Fault) → ending ≡ Err fault → EndsEarly fault
  -- What is written is of what was read. Nothing is read after the report has ended, or after a failed write.
  pub ends : CaptureReportEnds rules ending (input_known input) (input_known input') (out_known out) (out_known out')
  -- Where the input tells, a report is that of what was left of it.
  pub writes : (clean : Bool) → ending ≡ Ok clean → InputsBytes (input_known input) (input_known input') (λ left _. WritesReport rules left clean out_known out out')
  -- After want of memory nothing was read or written.
  pub untouched : ending ≡ Err faults.NoMemory → (input' ≡ input) × (out' ≡ out)
  -- It ends by a fault of the capture exactly where the reading breaks off by it, unless a read or a write failed before.
  pub exactly : (ending ≡ Err faults.Read → ⊥) → (ending ≡ Err faults.Write → ⊥)
      → InputsBytes (input_known input) (input_known input') (λ left _.
      UnlessMemory ending ((why : capture.CaptureEnding) → EndsByIt ending why ↔ BreaksOffBy rules left why))
  -- Where no read and no write failed, and the reading doesn't break off, the report is written: whatever delivery of whatever
  -- valid schedule the packets are, it is that of the delivery.
  pub complete : (HasFailed (input_known input) (input_known input') → ⊥) → (HasFailed (out_known out) (out_known out') → ⊥)
      → InputsBytes (input_known input) (input_known input') (λ left _. ((why : capture.CaptureEnding) → BreaksOffBy rules left why → ⊥)
      → UnlessMemory ending (WroteReport rules left ending out_known out out'))
  -- Where the packets are a delivery with each frame in time, none is missing, and the reading doesn't break off.
  pub in_time : (HasFailed (input_known input) (input_known input') → ⊥) → (HasFailed (out_known out) (out_known out') → ⊥)
      → InputsBytes (input_known input) (input_known input') (λ left _. (ahead : List Answer) → BytesBring left ahead → IsInTimeAhead rules ahead
      → UnlessMemory ending (ending ≡ Ok true))
  -- A count of faults rose, by one, exactly where a read or a write ended the run.
  pub read_cause : HasCause (input_known input) (input_known input') (ending ≡ Err faults.Read)
  pub write_cause : HasCause (out_known out) (out_known out') (ending ≡ Err faults.Write)

-- The command `receive` with addresses: a report for each link. That of one link is written as it is read, those of several
-- together at their end.
use Rattle.std.specs.Prelude.{ℕ, ◌≡◌, ◌+◌, ◌<◌, ◌⊎◌, ◌↔◌, IsTrue, Bool, true, List, [], ◌∷◌, length, slice_index_or, Result, Ok, Err}
use Rattle.std.specs.List.{flat_map, All}
use Rattle.drm_links.specs.Known.{HasFailed, Known, HasCause, KnownThrough}
use Rattle.drm_links.specs.Link.{Answer}
use Rattle.drm_links.specs.Sink.{Output, OutputsText, IsPrefix}
use Rattle.drm_links.specs.Dock.{DockContents, LinkStart, OpeningFinds, FindsNone, DockKnownThrough}
use Rattle.drm_links.specs.declared.dock.Address.{Address}
use Rattle.recv_reading.specs.declared.options.ReceiveOptions.{ReceiveOptions}
use Rattle.recv_reading.specs.declared.reason.EndWord.{EndWord}
use Rattle.recv_reading.specs.Ending.{ReadingGoesOn, IsFinished, IsReadingBroken}
use Rattle.recv_report.specs.Received.{IsReport, ReportWritten, ReportBroken, ReportStopped}
use Rattle.report_text.specs.Reports.{Report}
use Rattle.recv_reading.specs.OneReading.{BreaksOff}
use Rattle.recv_report.specs.Ahead.{IsInTimeAhead, IsReportOf, IsGivenOf, IsPrefixAhead}
use Rattle.cmd_faults.specs.Causes.{OpeningFailed}
use Rattle.cmd_faults.specs.Fault.{UnlessMemory}
use Rattle.cmd_faults.specs.declared.fault.Fault.{Fault}
use Rattle.cmd_faults.specs.declared.fault.Fault.TheVariants as faults
use Rattle.drm_links.specs.Binding.{HearsEach, BindsFew, StopsBehind}

-- a report for each address, in their order
pub record AreReports (rules : ReceiveOptions) (contents : DockContents) (addresses : List Address) (reports : List Report) : Type 0 where
  pub as_many : length reports ≡ length addresses
  pub each : (k : ℕ) (at : Address) (none : Report) → k < length addresses
      → (start : LinkStart) × OpeningFinds contents k (slice_index_or addresses k at) start
      × IsReportOf rules (k + 1) start.ahead (slice_index_or reports k none)

-- the texts of reports, one after another
abbrev pub all_texts : List Report → List ℕ
all_texts reports = flat_map (λ r. r.text) reports

abbrev pub AreClean : List Report → Type 0
AreClean reports = All (λ r. IsTrue r.clean) reports

-- Opening some address fails, or what is ahead of some link breaks off.
pub record FailsSome (rules : ReceiveOptions) (contents : DockContents) (addresses : List Address) : Type 0 where
  pub k : ℕ
  pub within : k < length addresses
  pub fails : (at : Address) → FindsNone contents k (slice_index_or addresses k at)
      ⊎ ((start : LinkStart) × OpeningFinds contents k (slice_index_or addresses k at) start × BreaksOff rules start.ahead)

-- What is written: the reports of all links, and whether they are clean; after a failed write a front of them; after
-- another fault nothing.
abbrev pub WritesReports : {O : Type 0} → (List Report → Type 0) → Result Bool Fault → (O → Known Output) → O → O → Type 0
WritesReports are (Ok clean) known out out' =
    (reports : List Report) × are reports × OutputsText (known out) (known out') (λ text. text ≡ all_texts reports) × (IsTrue clean ↔ AreClean reports)
WritesReports are (Err faults.Write) known out out' =
    (reports : List Report) × are reports × OutputsText (known out) (known out') (IsPrefix (all_texts reports))
WritesReports are (Err fault) known out out' = out' ≡ out

-- P holds of what is ahead of the link that the first opening from here finds at this address
abbrev pub HoldsAhead : DockContents → Address → (List Answer → Type 0) → Type 0
HoldsAhead contents at P = (start : LinkStart) × OpeningFinds contents 0 at start × P start.ahead

-- What is written of one link: the report of what is ahead of it; after a failed write a front of that; where it breaks off,
-- what is given before it does; where it can't be opened, or memory is wanting, nothing.
abbrev pub WritesLive : {O : Type 0} → ReceiveOptions → DockContents → Address → Result Bool Fault → (O → Known Output) → O → O → Type 0
WritesLive rules contents at (Ok clean) known out out' =
    HoldsAhead contents at (λ ahead. (r : Report) × IsReportOf rules 1 ahead r × OutputsText (known out) (known out') (λ text. text ≡ r.text) × (clean ≡ r.clean))
WritesLive rules contents at (Err faults.Write) known out out' = HoldsAhead contents at (λ ahead. OutputsText (known out) (known out') (IsPrefixAhead rules 1 ahead))
WritesLive rules contents at (Err faults.Link) known out out' =
    (FindsNone contents 0 at × (out' ≡ out))
    ⊎ HoldsAhead contents at (λ ahead. (given : List ℕ) × IsGivenOf rules 1 ahead given × OutputsText (known out) (known out') (λ text. text ≡ given))
WritesLive rules contents at (Err fault) known out out' = out' ≡ out

-- what is written of the links at these addresses
abbrev pub WritesAll : {O : Type 0} → ReceiveOptions → DockContents → List Address → Result Bool Fault → (O → Known Output) → O → O → Type 0
WritesAll rules contents (at ∷ []) ending known out out' = WritesLive rules contents at ending known out out'
WritesAll rules contents addresses ending known out out' = WritesReports (AreReports rules contents addresses) ending known out out'

-- so many reports, each of some answers
pub record AreSomeReports (rules : ReceiveOptions) (links : ℕ) (reports : List Report) : Type 0 where
  pub as_many : length reports ≡ links
  pub each : (k : ℕ) (none : Report) → k < links
      → (answers : List Answer) × IsReport rules (k + 1) answers (slice_index_or reports k none).text (slice_index_or reports k none).clean

-- the report is written as it is read: there is one link
abbrev pub IsLive : List Address → Type 0
IsLive addresses = length addresses ≡ 1

-- ---- what is read

-- the reading of these answers is finished
abbrev pub AreAll : ReceiveOptions → List Answer → Type 0
AreAll rules answers = (word : EndWord) × IsFinished rules answers word

-- it ends in `Failed`
abbrev pub AreBroken : ReceiveOptions → List Answer → Type 0
AreBroken rules answers = (before : List Answer) × IsReadingBroken rules before answers

-- What is read of one of several links: all up to the end of its reading. Where memory was wanting, or another link failed, that may not
-- have come.
abbrev pub ReadsOne : ReceiveOptions → Result Bool Fault → List Answer → Type 0
ReadsOne rules (Ok clean) answers = AreAll rules answers
ReadsOne rules (Err faults.Write) answers = AreAll rules answers
ReadsOne rules (Err faults.Link) answers = ReadingGoesOn rules answers ⊎ AreBroken rules answers
ReadsOne rules (Err fault) answers = ReadingGoesOn rules answers

abbrev pub AreExactly : List Answer → List Answer → Type 0
AreExactly answers others = others ≡ answers

-- What is read of one link, whose report is written as it is read: all up to the end of the reading, of which the report is. Where a write
-- failed, what was given before the last of these was written, and a front of what that one made ready. Where memory was wanting,
-- nothing was read.
abbrev pub ReadsLive : {O : Type 0} → ReceiveOptions → Result Bool Fault → (O → Known Output) → O → O → List Answer → Type 0
ReadsLive rules (Ok clean) known out out' answers = ReportWritten rules 1 (AreExactly answers) (known out) (known out') clean
ReadsLive rules (Err faults.Write) known out out' answers = ReportStopped rules 1 (AreExactly answers) (known out) (known out')
ReadsLive rules (Err faults.Link) known out out' answers = ReportBroken rules 1 (AreExactly answers) (known out) (known out')
ReadsLive rules (Err fault) known out out' answers = answers ≡ []

-- What is written, whatever the dock tells: of one link what some answers that are read of it bring, unless it can't be opened; of
-- several links a report each.
abbrev pub WritesSome : {O : Type 0} → ReceiveOptions → List Address → Result Bool Fault → (O → Known Output) → O → O → Type 0
WritesSome rules (at ∷ []) ending known out out' =
    ((ending ≡ Err faults.Link) × (out' ≡ out)) ⊎ ((answers : List Answer) × ReadsLive rules ending known out out' answers)
WritesSome rules addresses ending known out out' = WritesReports (AreSomeReports rules (length addresses)) ending known out out'

-- what is read of each link at these addresses
abbrev pub ReadsBy : {O : Type 0} → ReceiveOptions → List Address → Result Bool Fault → (O → Known Output) → O → O → List Answer → Type 0
ReadsBy rules (at ∷ []) ending known out out' answers = ReadsLive rules ending known out out' answers
ReadsBy rules addresses ending known out out' answers = ReadsOne rules ending answers

-- Each address is opened once, in their order, to receive; up to one that fails, or up to want of memory. What is said of reading is read
-- of each link, nothing is sent over it, and it is closed. Nothing else is asked of the dock.
abbrev pub OpensEach : {O : Type 0} → ReceiveOptions → List Address → Result Bool Fault → (O → Known Output) → O → O → DockContents → DockContents → Type 0
OpensEach rules addresses ending known out out' before after =
    HearsEach (ReadsBy rules addresses ending known out out') addresses before after
    ⊎ ((ending ≡ Err faults.Link) × BindsFew addresses before after)
    ⊎ ((ending ≡ Err faults.NoMemory) × StopsBehind addresses before after)

-- The run is done: the reports are written, all of them, and it is clean exactly where no line of them is missing or bad.
abbrev pub WroteReports : {O : Type 0} → Result Bool Fault → (List Report → Type 0) → (O → Known Output) → O → O → Type 0
WroteReports ending are known out out' = (clean : Bool) × (ending ≡ Ok clean) × WritesReports are (Ok clean) known out out'

-- what is ahead of the link at each address has each frame of a schedule in time
abbrev pub AreInTime : ReceiveOptions → DockContents → List Address → Type 0
AreInTime rules contents addresses =
    (k : ℕ) (at : Address) → k < length addresses
    → (start : LinkStart) × OpeningFinds contents k (slice_index_or addresses k at) start × IsInTimeAhead rules start.ahead

-- A run of `receive` with addresses.
pub record ReceiveRun {D O : Type 0} (rules : ReceiveOptions) (addresses : List Address) (ending : Result Bool Fault)
    (dock_known : D → Known DockContents) (dock dock' : D)
    (out_known : O → Known Output) (out out' : O) : Type 0 where
  -- It ends well, or for want of memory, by a failed link or by a failed write.
  pub kind : (fault : Fault) → ending ≡ Err fault → (fault ≡ faults.NoMemory) ⊎ (fault ≡ faults.Link) ⊎ (fault ≡ faults.Write)
  -- Where the dock tells: what is read of the links is this, and nothing else is asked of them.
  pub opens : KnownThrough (dock_known dock) (dock_known dock') (OpensEach rules addresses ending out_known out out')
  -- Where the dock tells: the reports are those of what was ahead of the links that it opened. Nothing else is written.
  pub writes : DockKnownThrough (dock_known dock) (dock_known dock') (λ contents. WritesAll rules contents addresses ending out_known out out')
  -- Where nothing is told of the links, what is written is a report all the same, and the run is clean where that is.
  pub sound : WritesSome rules addresses ending out_known out out'
  -- After want of memory nothing is written, and where one of several links failed.
  pub unwritten : (ending ≡ Err faults.NoMemory) ⊎ ((ending ≡ Err faults.Link) × (IsLive addresses → ⊥)) → out' ≡ out
  -- It fails by a link exactly where an opening fails, or what is read of some link ends in `Failed`; of one link, whose report
  -- is written as it is read, unless a write failed before.
  pub exactly : (IsLive addresses → ending ≡ Err faults.Write → ⊥)
      → DockKnownThrough (dock_known dock) (dock_known dock') (λ contents. UnlessMemory ending ((ending ≡ Err faults.Link) ↔ FailsSome rules contents addresses))
  -- Where no link and no write failed the report of each link is written, in the order of the addresses: whatever delivery of
  -- whatever valid schedule came over a link, its report is that of the delivery.
  pub complete : (HasFailed (out_known out) (out_known out') → ⊥)
      → DockKnownThrough (dock_known dock) (dock_known dock') (λ contents. (FailsSome rules contents addresses → ⊥)
      → UnlessMemory ending (WroteReports ending (AreReports rules contents addresses) out_known out out'))
  -- Where each link brings each frame of a schedule in time, none is missing, and none fails.
  pub in_time : (HasFailed (out_known out) (out_known out') → ⊥)
      → DockKnownThrough (dock_known dock) (dock_known dock') (λ contents. AreInTime rules contents addresses → UnlessMemory ending (ending ≡ Ok true))
  -- The count of faults of the dock rose, by one, exactly where an opening failed; that of out exactly where a write ended the run.
  pub dock_cause : OpeningFailed (dock_known dock) (dock_known dock') (ending ≡ Err faults.Link)
  pub write_cause : HasCause (out_known out) (out_known out') (ending ≡ Err faults.Write)

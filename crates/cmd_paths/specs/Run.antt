-- The run of several paths.
use Rattle.std.specs.Prelude.{ℕ, ◌≡◌, ◌<◌, ◌≤◌, ◌⊎◌, ◌↔◌, All, Bool, List, length, slice_index_or, Result, Ok, Err}
use Rattle.drm_links.specs.Known.{Known, HasFailed, HasCause, KnownThrough}
use Rattle.drm_links.specs.Link.{Answer}
use Rattle.drm_links.specs.Sink.{Output, OutputsText, IsPrefix}
use Rattle.drm_links.specs.Dock.{DockContents, LinkStart, AreDifferent, OpeningFinds, FindsNone, DockKnownThrough}
use Rattle.drm_links.specs.declared.dock.Address.{Address}
use Rattle.cmd_faults.specs.Causes.{OpeningFailed}
use Rattle.cmd_faults.specs.Fault.{WritesLine}
use Rattle.cli_paths.specs.declared.request.PathsRequest.{PathsRequest}
use Rattle.cli_paths.specs.Line.{IsPathsLine}
use Rattle.recv_reading.specs.declared.options.PacketRange.{PacketRange}
use Rattle.recv_reading.specs.Options.{IsWithinLimits}
use Rattle.report_journal.specs.Journal.{JournalState, datagrams}
use Rattle.report_journal.specs.Report.{IsReportOf}
use Rattle.report_text.specs.Reports.{Report}
use Rattle.drm_paths.specs.declared.run.PathOptions.{PathOptions}
use Rattle.recv_reading.specs.Values.{packet_range}
use Rattle.drm_paths.specs.State.{PathState}
use Rattle.drm_paths.specs.declared.run.PathEnded.TheVariants.{Idle, Limit, LinkFailed, NoMemory}
use Rattle.drm_paths.specs.Reading.{AreReasonable, PathEnds}
use Rattle.drm_paths.specs.Closing.{of_path, BookCloses}
use Rattle.drm_paths.specs.declared.close.Difference.{Difference}
use Rattle.drm_paths.specs.declared.close.Closed.TheVariants.{Differ}
use Rattle.drm_links.specs.Binding.{HearsEach, BindsFew}
use Rattle.cmd_paths.specs.Ahead.{IsAllOf, BreaksOff}
use Rattle.cmd_paths.specs.Faults.{fault_line}
use Rattle.cmd_paths.specs.declared.fault.PathsFault.{PathsFault}
use Rattle.cmd_paths.specs.declared.fault.PathsFault.TheVariants as faults

-- by what the report of a request is made
abbrev pub settings_in : PathsRequest → PacketRange
settings_in request = packet_range request.window request.reach request.first request.frames

-- when each path has read enough
abbrev pub options_in : PathsRequest → PathOptions
options_in request = record { idle = request.idle; limit = request.limit }

-- each number is in its range, and the addresses are two to four different ones
pub record IsPathsRequestInRange (request : PathsRequest) : Type 0 where
  pub journal : IsWithinLimits (settings_in request)
  pub options : AreReasonable (options_in request)
  pub few_idles : request.idle ≤ 1000000
  pub some_paths : 2 ≤ length request.addresses
  pub few_paths : length request.addresses ≤ 4
  pub different : AreDifferent request.addresses

-- The entries of path k are all datagrams that are read of the k-th link, each once, in their order, and there are no others:
-- only the order between paths is free.
pub record AreEntries (request : PathsRequest) (contents : DockContents) (entries : List (ℕ × List ℕ)) : Type 0 where
  pub each : (k : ℕ) (at : Address) → k < length request.addresses
      → (start : LinkStart) × OpeningFinds contents k (slice_index_or request.addresses k at) start × IsAllOf (options_in request) start.ahead (of_path k entries)
  pub others : All (λ e. e.0 < length request.addresses) entries

-- these are all datagrams of some answers with which a path ends, and none of them is a failure
abbrev pub AreOfAnswers : PathOptions → List (List ℕ) → Type 0
AreOfAnswers options taken = (answers : List Answer) × (PathEnds options answers taken Idle ⊎ PathEnds options answers taken Limit)

-- The entries of each path are those of some answers, each once, in their order, and there are no others.
pub record AreOfPaths (request : PathsRequest) (entries : List (ℕ × List ℕ)) : Type 0 where
  pub each : (k : ℕ) → k < length request.addresses → AreOfAnswers (options_in request) (of_path k entries)
  pub others : All (λ e. e.0 < length request.addresses) entries

-- Opening some address fails, or what is read of some link ends in `Failed`.
pub record FailsSome (request : PathsRequest) (contents : DockContents) : Type 0 where
  pub k : ℕ
  pub within : k < length request.addresses
  pub fails : (at : Address) → FindsNone contents k (slice_index_or request.addresses k at)
      ⊎ ((start : LinkStart) × OpeningFinds contents k (slice_index_or request.addresses k at) start × BreaksOff (options_in request) start.ahead)

-- These are the paths of the request: each took all datagrams that are read of the link at its address.
pub record ReadAll (request : PathsRequest) (contents : DockContents) (paths : List PathState) : Type 0 where
  pub as_many : length paths ≡ length request.addresses
  pub numbers : (k : ℕ) (d : PathState) → k < length request.addresses → (slice_index_or paths k d).number ≡ k
  pub each : (k : ℕ) (at : Address) (d : PathState) → k < length request.addresses
      → (start : LinkStart) × OpeningFinds contents k (slice_index_or request.addresses k at) start
      × IsAllOf (options_in request) start.ahead (slice_index_or paths k d).taken

-- All links are read, and their book is closed by a difference at this place of this path. What its journal has, as many entries
-- as were read and each of one of the paths, differs there first from what was read.
pub record DiffersAt (request : PathsRequest) (contents : DockContents) (path at : ℕ) : Type 0 where
  pub paths : List PathState
  pub read : ReadAll request contents paths
  pub journal : JournalState
  pub difference : Difference
  pub closes : BookCloses (settings_in request) journal paths (Differ difference)
  pub path_is : path ≡ difference.path
  pub at_is : at ≡ difference.at

-- What is written: the report of such entries; after a failed write a front of it; after another fault nothing.
abbrev pub WritesReport : {O : Type 0} → PacketRange → (List (ℕ × List ℕ) → Type 0) → Result Bool PathsFault → (O → Known Output) → O → O → Type 0
WritesReport by are (Ok clean) known out out' =
    (entries : List (ℕ × List ℕ)) × are entries × (r : Report) × IsReportOf by (datagrams entries) r.text r.clean
    × OutputsText (known out) (known out') (λ text. text ≡ r.text) × (clean ≡ r.clean)
WritesReport by are (Err faults.Write) known out out' =
    (entries : List (ℕ × List ℕ)) × are entries × (r : Report) × IsReportOf by (datagrams entries) r.text r.clean
    × OutputsText (known out) (known out') (IsPrefix r.text)
WritesReport by are (Err fault) known out out' = out' ≡ out

-- The run is done, and the report is written.
abbrev pub WroteReport : {O : Type 0} → PacketRange → (List (ℕ × List ℕ) → Type 0) → Result Bool PathsFault → (O → Known Output) → O → O → Type 0
WroteReport by are ending known out out' = (clean : Bool) × (ending ≡ Ok clean) × WritesReport by are (Ok clean) known out out'

-- it ends by a difference
abbrev pub IsDiffering : Result Bool PathsFault → Type 0
IsDiffering ending = (path : ℕ) × (at : ℕ) × (ending ≡ Err (faults.Differs path at))

-- a path ends after these answers by its options, for want of memory, or by a link that failed
abbrev pub AreAll : PathOptions → List Answer → Type 0
AreAll options answers = (taken : List (List ℕ)) × (PathEnds options answers taken Idle ⊎ PathEnds options answers taken Limit)

abbrev pub AreCut : PathOptions → List Answer → Type 0
AreCut options answers = (taken : List (List ℕ)) × PathEnds options answers taken NoMemory

abbrev pub AreBroken : PathOptions → List Answer → Type 0
AreBroken options answers = (taken : List (List ℕ)) × PathEnds options answers taken LinkFailed

-- What is read of each link: all up to the end of its path. Where memory was wanting, or a link failed, some path ended by that.
abbrev pub ReadsBy : PathOptions → Result Bool PathsFault → List Answer → Type 0
ReadsBy options (Err faults.Link) answers = AreAll options answers ⊎ AreCut options answers ⊎ AreBroken options answers
ReadsBy options (Err faults.NoMemory) answers = AreAll options answers ⊎ AreCut options answers
ReadsBy options ending answers = AreAll options answers

-- Each address is opened once, in their order, to receive, up to one that fails; or memory was wanting before. What is said of reading is
-- read of each link, nothing is sent over it, and it is closed. Nothing else is asked of the dock.
abbrev pub OpensEach : PathsRequest → Result Bool PathsFault → DockContents → DockContents → Type 0
OpensEach request ending before after =
    HearsEach (ReadsBy (options_in request) ending) request.addresses before after
    ⊎ ((ending ≡ Err faults.Link) × BindsFew request.addresses before after)
    ⊎ ((ending ≡ Err faults.NoMemory) × (after ≡ before))

-- A run of a request.
pub record PathsRun {D O : Type 0} (request : PathsRequest) (ending : Result Bool PathsFault)
    (dock_known : D → Known DockContents) (dock dock' : D)
    (out_known : O → Known Output) (out out' : O) : Type 0 where
  pub kind : ending ≡ Err faults.Words → ⊥
  -- Where the dock tells: what is read of the links is this, and nothing else is asked of them.
  pub opens : KnownThrough (dock_known dock) (dock_known dock') (OpensEach request ending)
  -- Where the dock tells: the report is that of all that is read of the links that it opened. Nothing else is written.
  pub writes : DockKnownThrough (dock_known dock) (dock_known dock') (λ contents.
      WritesReport (settings_in request) (AreEntries request contents) ending out_known out out')
  -- Where nothing is told of the links, what is written is a report all the same, and the run is clean where that is.
  pub sound : WritesReport (settings_in request) (AreOfPaths request) ending out_known out out'
  -- Nothing is written where a run ends by another fault than a failed write.
  pub unwritten : (fault : PathsFault) → ending ≡ Err fault → (fault ≡ faults.Write → ⊥) → out' ≡ out
  -- It fails by a link exactly where an opening fails, or what is read of some link ends in `Failed`.
  pub exactly : DockKnownThrough (dock_known dock) (dock_known dock') (λ contents.
      (ending ≡ Err faults.NoMemory) ⊎ ((ending ≡ Err faults.Link) ↔ FailsSome request contents))
  -- A difference is told only where the book was closed by it.
  pub differs : DockKnownThrough (dock_known dock) (dock_known dock') (λ contents.
      (path at : ℕ) → ending ≡ Err (faults.Differs path at) → DiffersAt request contents path at)
  -- Where no link and no write fails, and memory suffices, the report is written, unless a difference was found.
  pub complete : (HasFailed (out_known out) (out_known out') → ⊥) → DockKnownThrough (dock_known dock) (dock_known dock') (λ contents.
      (FailsSome request contents → ⊥) → (ending ≡ Err faults.NoMemory) ⊎ (IsDiffering ending
      ⊎ WroteReport (settings_in request) (AreEntries request contents) ending out_known out out'))
  -- The count of faults of the dock rose, by one, exactly where an opening failed; that of out exactly where a write ended the run.
  pub dock_cause : OpeningFailed (dock_known dock) (dock_known dock') (ending ≡ Err faults.Link)
  pub write_cause : HasCause (out_known out) (out_known out') (ending ≡ Err faults.Write)

-- What a run writes to err: the line of its fault, and else nothing.
abbrev pub ReportsFault : {E : Type 0} → Result Bool PathsFault → (E → Known Output) → E → E → Type 0
ReportsFault (Ok clean) known err err' = err' ≡ err
ReportsFault (Err fault) known err err' = WritesLine (fault_line fault) known err err'

-- the words ask for no run
abbrev pub AsksForNothing : List (List ℕ) → Type 0
AsksForNothing words = (request : PathsRequest) → IsPathsLine words request → ⊥

-- What comes of words that ask for a run: it; or memory ran out while they were read, and nothing was touched.
abbrev pub RunsPaths : {D O : Type 0} → PathsRequest → Result Bool PathsFault → (D → Known DockContents) → D → D → (O → Known Output) → O → O → Type 0
RunsPaths request ending dock_known dock dock' out_known out out' =
    PathsRun request ending dock_known dock dock' out_known out out'
    ⊎ ((ending ≡ Err faults.NoMemory) × (dock' ≡ dock) × (out' ≡ out))

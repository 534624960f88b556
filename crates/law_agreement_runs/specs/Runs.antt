-- The modulators of a run of the program: each with what it received and its report, as the headline of the run has them.
use Rattle.std.specs.Prelude.{ℕ, ◌≡◌, ◌+◌, ◌<◌, Bool, List, length, map, slice_index_or, None, Some, Ok}
use Rattle.drm_links.specs.Known.{Known}
use Rattle.drm_links.specs.Link.{Answer, Datagram}
use Rattle.drm_links.specs.Shelf.{Files}
use Rattle.drm_links.specs.Source.{Input, InputsBytes}
use Rattle.drm_links.specs.Sink.{Output, OutputsText}
use Rattle.drm_links.specs.Dock.{DockContents, LinkStart, OpeningFinds, DockKnownThrough}
use Rattle.drm_links.specs.declared.dock.Address.{Address}
use Rattle.drm_schedule.specs.declared.plan.Plan.{Plan}
use Rattle.drm_schedule.specs.Valid.{IsSchedule}
use Rattle.plan_script.specs.declared.delivery.Delivery.{Delivery}
use Rattle.law_delivery.specs.Sent.{AreSent}
use Rattle.recv_reading.specs.declared.options.ReceiveOptions.{ReceiveOptions}
use Rattle.recv_reading.specs.Source.{BytesBring}
use Rattle.recv_reading.specs.Values.{receive_options}
use Rattle.report_text.specs.Reports.{Report}
use Rattle.recv_report.specs.Ahead.{IsReportOf}
use Rattle.cmd_load.specs.Loading.{ReadBy}
use Rattle.cmd_load.specs.Schedule.{schedule_named}
use Rattle.cmd_load.specs.Scripts.{script_named}
use Rattle.cmd_receive.specs.Receive.{all_texts}
use Rattle.cmd_air.specs.Air.{air_rules, pairs_of}
use Rattle.drm_words.specs.declared.request.Request.{Request}
use Rattle.drm_words.specs.declared.request.Request.TheVariants.{Receive, Air}
use Rattle.drm_top.specs.Outside.{Outside, Object}
use Rattle.drm_top.specs.Headline.{HeadlineOfRun}
use Rattle.law_agreement.specs.Modulators.{Modulator, HeadlineFor, ModulatorsAgree, receiver}

-- a run, by what is known of the five objects of the outside
abbrev pub KnownRun : Type 0
KnownRun = Outside (Known Files) (Known Input) (Known Output) (Known Output) (Known DockContents)

-- P is true of the receiver that made this report of what was ahead: it read some first answers of that.
pub record OfReceiver (rules : ReceiveOptions) (feed : ℕ) (ahead : List Answer) (r : Report) (P : Modulator → Type 0) : Type 0 where
  pub reports : IsReportOf rules feed ahead r
  pub holds : P (receiver rules reports.answers r)

-- The reports that were written, and no other text, are one for each address, and P is true of the receiver of each.
pub record OfEachAddress (rules : ReceiveOptions) (contents : DockContents) (addresses : List Address) (out : Object (Known Output) Output) (P : Modulator → Type 0) : Type 0 where
  pub reports : List Report
  pub as_many : length reports ≡ length addresses
  pub written : OutputsText (out.known out.before) (out.known out.after) (λ text. text ≡ all_texts reports)
  pub each : (k : ℕ) (at : Address) (none : Report) → k < length addresses
      → (start : LinkStart) × OpeningFinds contents k (slice_index_or addresses k at) start × OfReceiver rules (k + 1) start.ahead (slice_index_or reports k none) P

-- The report that was written, and no other text, is that of the capture, and P is true of its receiver.
pub record OfCapture (rules : ReceiveOptions) (left : List ℕ) (out : Object (Known Output) Output) (P : Modulator → Type 0) : Type 0 where
  pub ahead : List Answer
  pub brings : BytesBring left ahead
  pub report : Report
  pub written : OutputsText (out.known out.before) (out.known out.after) (λ text. text ≡ report.text)
  pub is : OfReceiver rules 1 ahead report P

-- The files are a schedule and a script for it. The reports that were written, and no other text, are one for each feed, of the datagrams that it
-- delivers, and P is true of the receiver of each.
pub record OfEachFeed (name script : List ℕ) (window : ℕ) (shelf : Object (Known Files) Files) (out : Object (Known Output) Output) (P : Modulator → Type 0) : Type 0 where
  pub plan : Plan
  pub valid : IsSchedule plan
  pub between : Known Files
  pub schedule : ReadBy (schedule_named name) (Ok plan) (shelf.known shelf.before) between
  pub feeds : List (List Delivery)
  pub deliveries : ReadBy (script_named plan script) (Ok feeds) between (shelf.known shelf.after)
  pub reports : List Report
  pub as_many : length reports ≡ length feeds
  pub written : OutputsText (out.known out.before) (out.known out.after) (λ text. text ≡ all_texts reports)
  pub each : (k : ℕ) (feed : List Delivery) (none : Report) → k < length feeds
      → (datagrams : List (List ℕ)) × AreSent plan (pairs_of (slice_index_or feeds k feed)) datagrams
      × OfReceiver (air_rules plan window) (k + 1) (map Datagram datagrams) (slice_index_or reports k none) P

-- P is true of each modulator of this run: of the receivers of `receive`, if its dock or its input is known, and of the feeds of `air`.
abbrev pub OfEachModulator : Request → KnownRun → (Modulator → Type 0) → Type 0
OfEachModulator (Receive (Some addresses) window reach first frames idle limit) o P =
    DockKnownThrough (o.dock.known o.dock.before) (o.dock.known o.dock.after) (λ contents.
    OfEachAddress (receive_options window reach first frames idle limit) contents addresses o.out P)
OfEachModulator (Receive None window reach first frames idle limit) o P =
    InputsBytes (o.input.known o.input.before) (o.input.known o.input.after) (λ left _. OfCapture (receive_options window reach first frames idle limit) left o.out P)
OfEachModulator (Air name script window) o P = OfEachFeed name script window o.shelf o.out P
OfEachModulator _ o P = Unit {0}

-- The headline holds of each modulator of a run of which the headline holds.
abbrev pub RunsHaveModulators : Type 0
RunsHaveModulators = (request : Request) (clean : Bool) (o : KnownRun) → HeadlineOfRun request clean o → OfEachModulator request o HeadlineFor

-- Each modulator of a run agrees with each modulator of another run, or of the same one.
abbrev pub TwoRuns : Type 0
TwoRuns =
    (request request' : Request) (clean clean' : Bool) (o o' : KnownRun) → HeadlineOfRun request clean o → HeadlineOfRun request' clean' o'
    → OfEachModulator request o (λ one. OfEachModulator request' o' (λ other. ModulatorsAgree one other))

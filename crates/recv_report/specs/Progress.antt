-- How far a report has come.
use Rattle.std.specs.Prelude.{ℕ, ◌≡◌, ◌+◌, ◌≤◌, List, [], ◌++◌, length, Option, None, Some, Result}
use Rattle.drm_links.specs.Known.{Known}
use Rattle.drm_links.specs.Link.{Answer}
use Rattle.drm_links.specs.Sink.{Output, OutputsText, IsPrefixBehind}
use Rattle.dcp_collect.specs.declared.taken.Taken.{Taken}
use Rattle.dcp_collect.specs.CollectorState.{CollectorState}
use Rattle.dcp_collect.specs.Runs.{CollectorItem, IsItem, CollectorRun, up_to}
use Rattle.drm_reconfiguration.specs.Tracker.{TrackerState, new_tracker}
use Rattle.mod_feed.specs.Feeding.{FeedStep, IsStep, FeedAnswers, after_step}
use Rattle.report_text.specs.Report.{step_text}
use Rattle.text_output.specs.Gathering.{PutsText}
use Rattle.recv_reading.specs.declared.options.ReceiveOptions.{ReceiveOptions}
use Rattle.recv_reading.specs.declared.reason.EndWord.{EndWord}
use Rattle.recv_reading.specs.declared.source.SourceFault.{SourceFault}
use Rattle.recv_reading.specs.Ending.{datagrams, CollectorGave, ReadingGoesOn, IsFinished, IsReadingBroken, most_answers}
use Rattle.recv_report.specs.declared.reading.ReceiveFault.{ReceiveFault}
use Rattle.recv_report.specs.declared.reading.ReceiveFault.TheVariants as fault
use Rattle.report_text.specs.Reports.{steps_text}
use Rattle.report_text.specs.Tallies.{TallyContents, counted, noted, items_in, tally_of}
use Rattle.recv_report.specs.Received.{StepsSplit, ReportBroken, ReportStopped}

-- The lines of the earlier steps are written; those of the later ones are written behind them, or gathered.
abbrev pub AreOut : List FeedStep → List FeedStep → List ℕ → List ℕ → Type 0
AreOut earlier later gathered text =
    (written : List ℕ) × (text ≡ steps_text earlier ++ written) × (written ++ gathered ≡ steps_text later)

-- Each item was given to the feed and counted, and its lines are out or gathered. The earlier steps are those of the items that were
-- given before the last answer.
pub record HasPrinted (a b : Known Output) (f : TrackerState) (t : TallyContents) (gathered : List ℕ) (taken : List Taken) (during more : List CollectorItem) (c : CollectorState) : Type 0 where
  pub earlier : List FeedStep
  pub mid : TrackerState
  pub before : FeedAnswers new_tracker during earlier mid
  pub later : List FeedStep
  pub since : FeedAnswers mid more later f
  pub calls : f.calls ≡ c.next
  pub tally : t ≡ tally_of (earlier ++ later) taken
  pub items : items_in t.sums ≡ c.next
  pub quiet : more ≡ [] → gathered ≡ []
  pub text : OutputsText a b (AreOut earlier later gathered)

-- The next item of a collector was given to the feed and counted, and its lines were put behind those that are gathered.
pub record WritesNext {E : Type 0} (result : Result (Unit {0}) E) (c : CollectorState) (f g : TrackerState) (t u : TallyContents) (gathered more : List ℕ) (a b : Known Output) : Type 0 where
  pub item : CollectorItem
  pub is : IsItem c item
  pub step : FeedStep
  pub stepping : IsStep f item step
  pub feed : g ≡ after_step f step
  pub calls : g.calls ≡ f.calls + 1
  pub tally : u ≡ counted t step.item
  pub puts : PutsText result gathered more a b (step_text step)

-- with what became of a datagram, if one came
abbrev pub noted_if : TallyContents → ℕ → Option Taken → TallyContents
noted_if tally number None = tally
noted_if tally number (Some taken) = noted tally number taken

-- The reading is finished, for this reason, and the lines of all items are written.
pub record WroteItems (options : ReceiveOptions) (so_far : List Answer → Type 0) (a b : Known Output) (t : TallyContents) (word : EndWord) : Type 0 where
  pub answers : List Answer
  pub heard : so_far answers
  pub few : length answers ≤ most_answers options
  pub reading : IsFinished options answers word
  pub taken : List Taken
  pub items : List CollectorItem
  pub run : CollectorRun options.window options.reach options.first options.frames (datagrams answers) taken items
  pub steps : List FeedStep
  pub last : TrackerState
  pub feeds : FeedAnswers new_tracker items steps last
  pub tally : t ≡ tally_of steps taken
  pub text : OutputsText a b (λ text. text ≡ steps_text steps)

-- the reading ended in `Failed`, and what was given before was written
pub record ReadsBroken (options : ReceiveOptions) (so_far : List Answer → Type 0) (a b : Known Output) : Type 0 where
  pub answers : List Answer
  pub heard : so_far answers
  pub few : length answers ≤ most_answers options
  pub sound : List Answer
  pub reading : IsReadingBroken options sound answers
  pub taken : List Taken
  pub items : List CollectorItem
  pub end : CollectorState
  pub gave : CollectorGave options sound taken items end
  pub all : up_to options.frames items ≡ items
  pub steps : List FeedStep
  pub last : TrackerState
  pub feeds : FeedAnswers new_tracker items steps last
  pub text : OutputsText a b (λ text. text ≡ steps_text steps)

-- a write failed: what was given before the last answer was written, and a front of what that one made ready
pub record ReadsPrefix (options : ReceiveOptions) (so_far : List Answer → Type 0) (a b : Known Output) : Type 0 where
  pub answers : List Answer
  pub heard : so_far answers
  pub few : length answers ≤ most_answers options
  pub goes_on : ReadingGoesOn options answers
  pub earlier : List FeedStep
  pub later : List FeedStep
  pub stepped : StepsSplit options answers earlier later
  pub text : OutputsText a b (IsPrefixBehind (steps_text earlier) (steps_text later))

-- what stops a reading
abbrev pub StopsReading : ReceiveOptions → (List Answer → Type 0) → (SourceFault → List Answer → Type 0) → Known Output → Known Output → ReceiveFault → Type 0
StopsReading options so_far breaks a b (fault.Source why) = ReadsBroken options (breaks why) a b
StopsReading options so_far breaks a b fault.Write = ReadsPrefix options so_far a b
StopsReading options so_far breaks a b fault.NoMemory = ⊥

-- and so a report
abbrev pub StopsReport : ReceiveOptions → ℕ → (List Answer → Type 0) → (SourceFault → List Answer → Type 0) → Known Output → Known Output → ReceiveFault → Type 0
StopsReport options feed so_far breaks a b (fault.Source why) = ReportBroken options feed (breaks why) a b
StopsReport options feed so_far breaks a b fault.Write = ReportStopped options feed so_far a b
StopsReport options feed so_far breaks a b fault.NoMemory = Unit {0}

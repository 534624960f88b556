-- What a receiver does.
use Rattle.std.specs.Prelude.{ℕ, ◌≡◌, ◌≤◌, ◌<◌, ◌⊎◌, Bool, IfSome, List, [], ◌++◌, length, Result, Ok, Err}
use Rattle.drm_links.specs.Known.{Known}
use Rattle.drm_links.specs.Link.{Answer, Traffic}
use Rattle.drm_links.specs.Sink.{Output, OutputsText, IsPrefix, IsPrefixBehind}
use Rattle.dcp_collect.specs.declared.taken.Taken.{Taken}
use Rattle.dcp_collect.specs.CollectorState.{CollectorState}
use Rattle.dcp_collect.specs.Runs.{CollectorItem, CollectorRun, up_to}
use Rattle.drm_reconfiguration.specs.Tracker.{TrackerState, new_tracker}
use Rattle.mod_feed.specs.Feeding.{FeedStep, FeedAnswers}
use Rattle.recv_reading.specs.declared.reason.EndWord.{EndWord}
use Rattle.report_text.specs.Report.{feed_line}
use Rattle.drm_links.specs.Hearing.{LinkHeard}
use Rattle.recv_reading.specs.declared.options.ReceiveOptions.{ReceiveOptions}
use Rattle.recv_reading.specs.Values.{receive_options}
use Rattle.recv_reading.specs.Ending.{datagrams, CollectorGave, FewAtOnce, ReadingGoesOn, IsFinished, IsReadingBroken, most_answers, GivesSome}
use Rattle.report_text.specs.Reports.{refusals, steps_text, report, is_clean}
use Rattle.report_text.specs.Totals.{totals_of, answered, are_clean}
use Rattle.report_text.specs.declared.totals.Totals.{Totals}
use Rattle.recv_report.specs.declared.one_receiver.Options.{Options}
use Rattle.recv_report.specs.declared.one_receiver.Ended.{Ended}
use Rattle.recv_report.specs.declared.one_receiver.Ended.TheVariants.{Done, LinkFailed, WriteFailed, NoMemory}
use Rattle.recv_report.specs.declared.stop.ReceiveError.{ReceiveError}
use Rattle.recv_report.specs.declared.stop.ReceiveError.TheVariants as errors

-- The report of these answers: the shortest that are finished, what a new collector and a new feed give of their datagrams,
-- and why they end.
pub record IsReport (rules : ReceiveOptions) (feed : ℕ) (answers : List Answer) (text : List ℕ) (clean : Bool) : Type 0 where
  pub word : EndWord
  pub reading : IsFinished rules answers word
  pub taken : List Taken
  pub items : List CollectorItem
  pub run : CollectorRun rules.window rules.reach rules.first rules.frames (datagrams answers) taken items
  pub steps : List FeedStep
  pub after : TrackerState
  pub feeds : FeedAnswers new_tracker items steps after
  pub text_is : text ≡ report feed steps (refusals taken) word
  pub clean_is : clean ≡ is_clean steps

-- What is written where the reading ends in `Failed`: the first line, and the items that were given before it.
pub record IsReportBrokenOff (rules : ReceiveOptions) (feed : ℕ) (answers : List Answer) (text : List ℕ) : Type 0 where
  pub before : List Answer
  pub reading : IsReadingBroken rules before answers
  pub taken : List Taken
  pub items : List CollectorItem
  pub end : CollectorState
  pub gave : CollectorGave rules before taken items end
  pub steps : List FeedStep
  pub after : TrackerState
  pub feeds : FeedAnswers new_tracker (up_to rules.frames items) steps after
  pub text_is : text ≡ feed_line feed ++ steps_text steps

-- the steps of all that was given before the last answer, and of what came then
pub record StepsSplit (rules : ReceiveOptions) (answers : List Answer) (earlier later : List FeedStep) : Type 0 where
  pub items : List CollectorItem
  pub some : GivesSome rules answers items
  pub mid : TrackerState
  pub before : FeedAnswers new_tracker (up_to rules.frames some.during) earlier mid
  pub last : TrackerState
  pub feeds : FeedAnswers new_tracker items (earlier ++ later) last

-- What is written where a write failed: a front of the first line, before anything is read; all that was given before the last
-- answer, and a front of what that one made ready; or the lines of all items, and a front of what ends the report.
abbrev pub IsReportPrefix : ReceiveOptions → ℕ → List Answer → List ℕ → Type 0
IsReportPrefix rules feed answers text =
    ((answers ≡ []) × IsPrefix (feed_line feed) text)
    ⊎ ((earlier later : List FeedStep) × StepsSplit rules answers earlier later
    × IsPrefixBehind (feed_line feed ++ steps_text earlier) (steps_text later) text)
    ⊎ ((whole : List ℕ) × (clean : Bool) × (is : IsReport rules feed answers whole clean)
    × (behind : List ℕ) × (whole ≡ (feed_line feed ++ steps_text is.steps) ++ behind)
    × IsPrefixBehind (feed_line feed ++ steps_text is.steps) behind text)

-- The reading was finished, and the report of what was read was written. What was heard says which answers it can be: of a
-- link those that it gave in between.
pub record ReportWritten (rules : ReceiveOptions) (feed : ℕ) (hears : List Answer → Type 0) (a b : Known Output) (clean : Bool) : Type 0 where
  pub answers : List Answer
  pub heard : hears answers
  pub few : length answers ≤ most_answers rules
  pub at_once : FewAtOnce rules answers
  pub whole : List ℕ
  pub is : IsReport rules feed answers whole clean
  pub text : OutputsText a b (λ text. text ≡ whole)

-- The report was written, and these are its totals: the sums are those of its last line, and each datagram is counted once by what was
-- answered to it.
pub record ReportCounted (rules : ReceiveOptions) (feed : ℕ) (hears : List Answer → Type 0) (a b : Known Output) (totals : Totals) : Type 0 where
  pub written : ReportWritten rules feed hears a b (are_clean totals)
  pub are : totals ≡ totals_of written.is.steps written.is.taken
  pub all : answered totals ≡ length (datagrams written.answers)

-- The reading ended in `Failed`, and what was given before was written.
pub record ReportBroken (rules : ReceiveOptions) (feed : ℕ) (hears : List Answer → Type 0) (a b : Known Output) : Type 0 where
  pub answers : List Answer
  pub heard : hears answers
  pub few : length answers ≤ most_answers rules
  pub at_once : FewAtOnce rules answers
  pub whole : List ℕ
  pub is : IsReportBrokenOff rules feed answers whole
  pub text : OutputsText a b (λ text. text ≡ whole)

-- A write failed: nothing shorter than what was read is finished, and what was written is all that was given before, and a front.
pub record ReportStopped (rules : ReceiveOptions) (feed : ℕ) (hears : List Answer → Type 0) (a b : Known Output) : Type 0 where
  pub answers : List Answer
  pub heard : hears answers
  pub few : length answers ≤ most_answers rules
  pub at_once : FewAtOnce rules answers
  pub goes_on : ReadingGoesOn rules answers
  pub text : OutputsText a b (IsReportPrefix rules feed answers)

-- what a call reads by: from its new collector and its options
abbrev pub rules_of : CollectorState → Options → ReceiveOptions
rules_of c options = receive_options c.window c.reach c.first options.frames options.idle options.limit

-- each number of the options is in its range
pub record AreOptionsInRange (options : Options) : Type 0 where
  pub feed : 0 < options.feed
  pub idle : 0 < options.idle
  pub limit : 0 < options.limit
  pub some_frames : IfSome options.frames (λ n. 0 < n)
  pub few_frames : IfSome options.frames (λ n. n ≤ 3000000)

-- what each ending says; memory is wanted before anything is read or written
abbrev pub ReceiverEndsAs : ReceiveOptions → ℕ → Known Traffic → Known Traffic → Known Output → Known Output → Ended → Type 0
ReceiverEndsAs rules feed before after a b (Done clean) = ReportWritten rules feed (LinkHeard before after) a b clean
ReceiverEndsAs rules feed before after a b LinkFailed = ReportBroken rules feed (LinkHeard before after) a b
ReceiverEndsAs rules feed before after a b WriteFailed = ReportStopped rules feed (LinkHeard before after) a b
ReceiverEndsAs rules feed before after a b NoMemory = (after ≡ before) × (b ≡ a)

-- and so with the totals of its report
abbrev pub LinkReportEnds : ReceiveOptions → ℕ → Known Traffic → Known Traffic → Known Output → Known Output → Result Totals ReceiveError → Type 0
LinkReportEnds rules feed before after a b (Ok totals) = ReportCounted rules feed (LinkHeard before after) a b totals
LinkReportEnds rules feed before after a b (Err errors.Link) = ReportBroken rules feed (LinkHeard before after) a b
LinkReportEnds rules feed before after a b (Err errors.Write) = ReportStopped rules feed (LinkHeard before after) a b
LinkReportEnds rules feed before after a b (Err errors.NoMemory) = (after ≡ before) × (b ≡ a)

-- where it is done, P holds of whether no item is missing or bad
abbrev pub IfDone : (Bool → Type 0) → Ended → Type 0
IfDone P (Done clean) = P clean
IfDone P LinkFailed = Unit {0}
IfDone P WriteFailed = Unit {0}
IfDone P NoMemory = Unit {0}

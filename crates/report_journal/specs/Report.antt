-- The report of datagrams that came over several paths.
use Rattle.std.specs.Prelude.{ℕ, ◌≡◌, ◌++◌, if◌then◌else◌, Bool, List, length, Option}
use Rattle.drm_links.specs.Sink.{IsPrefix}
use Rattle.dcp_collect.specs.declared.taken.Taken.{Taken}
use Rattle.dcp_collect.specs.CollectorState.{CollectorState, made}
use Rattle.dcp_collect.specs.Runs.{CollectorItem, CollectorSteps, CollectorRun, up_to}
use Rattle.drm_reconfiguration.specs.Tracker.{TrackerState, new_tracker}
use Rattle.mod_feed.specs.Feeding.{FeedStep, FeedAnswers}
use Rattle.recv_reading.specs.declared.reason.EndWord.{EndWord}
use Rattle.recv_reading.specs.declared.reason.EndWord.TheVariants.{Frames, Paths}
use Rattle.report_text.specs.Report.{feed_line}
use Rattle.report_text.specs.Reports.{refusals, steps_text, report, is_clean}
use Rattle.report_text.specs.Tallies.{tally_of, TallyContents}
use Rattle.recv_reading.specs.State.{is_full}
use Rattle.recv_reading.specs.declared.options.PacketRange.{PacketRange}

-- Collector, feed and counts are what new ones come to by these datagrams: each is taken in turn, and all that is ready then is
-- given. The text is the report so far: the first line, and the lines of the items up to the told number.
pub record IsReportSoFar (by : PacketRange) (datagrams : List (List ℕ)) (c : CollectorState) (f : TrackerState) (t : TallyContents) (text : List ℕ) : Type 0 where
  pub taken : List Taken
  pub items : List CollectorItem
  pub gave : CollectorSteps (made by.window by.reach by.first) datagrams taken items c
  pub steps : List FeedStep
  pub feeds : FeedAnswers new_tracker (up_to by.frame_limit items) steps f
  pub counts : t ≡ tally_of steps taken
  pub text_is : text ≡ feed_line 1 ++ steps_text steps

-- The text is a front of the report so far of these datagrams: of its first line, and the lines of some first items of those
-- that are given.
pub record IsPrefixSoFar (by : PacketRange) (datagrams : List (List ℕ)) (text : List ℕ) : Type 0 where
  pub taken : List Taken
  pub items : List CollectorItem
  pub more : List CollectorItem
  pub last : CollectorState
  pub gave : CollectorSteps (made by.window by.reach by.first) datagrams taken (items ++ more) last
  pub steps : List FeedStep
  pub after : TrackerState
  pub feeds : FeedAnswers new_tracker (up_to by.frame_limit items) steps after
  pub front : IsPrefix (feed_line 1 ++ steps_text steps) text

-- why the report ends where so many items were given
abbrev pub word_for : Option ℕ → ℕ → EndWord
word_for frame_limit given = if is_full frame_limit given then Frames else Paths

-- The text is the whole report of these datagrams: of what a new collector and a new feed give of them, with the number of a
-- refused datagram its place among them; and `clean` says that no line tells of a missing or bad frame.
pub record IsReportOf (by : PacketRange) (datagrams : List (List ℕ)) (text : List ℕ) (clean : Bool) : Type 0 where
  pub taken : List Taken
  pub items : List CollectorItem
  pub run : CollectorRun by.window by.reach by.first by.frame_limit datagrams taken items
  pub steps : List FeedStep
  pub after : TrackerState
  pub feeds : FeedAnswers new_tracker items steps after
  pub text_is : text ≡ report 1 steps (refusals taken) (word_for by.frame_limit (length run.during))
  pub clean_is : clean ≡ is_clean steps

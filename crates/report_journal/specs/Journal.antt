-- A journal as data.
use Rattle.std.specs.Prelude.{ℕ, ◌≡◌, ◌++◌, ◌∷◌, [], Bool, true, false, List, map, length}
use Rattle.dcp_collect.specs.declared.taken.Taken.{Taken}
use Rattle.dcp_collect.specs.CollectorState.{CollectorState, made}
use Rattle.dcp_collect.specs.Runs.{CollectorTakes}
use Rattle.drm_reconfiguration.specs.Tracker.{TrackerState, new_tracker}
use Rattle.report_text.specs.Report.{feed_line}
use Rattle.report_text.specs.Tallies.{TallyContents, new_tally, noted}
use Rattle.report_journal.specs.declared.journal.Entry.{Entry}
use Rattle.recv_reading.specs.declared.options.PacketRange.{PacketRange}
use Rattle.report_journal.specs.Report.{IsReportSoFar, IsPrefixSoFar}
use Rattle.report_journal.specs.Lines.{WritesAll, CountsFirst}

-- The entries, each the number of a path and a datagram; by what the report is made; what the datagrams come to; the text of
-- the report so far, and whether it has stopped.
pub record JournalState : Type 0 where
  pub entries : List (ℕ × List ℕ)
  pub options : PacketRange
  pub collector : CollectorState
  pub feed : TrackerState
  pub tally : TallyContents
  pub text : List ℕ
  pub stopped : Bool

abbrev pub entry_of : Entry → ℕ × List ℕ
entry_of e = (e.path, e.datagram.items)

-- the datagrams of entries, in their order
abbrev pub datagrams : List (ℕ × List ℕ) → List (List ℕ)
datagrams entries = map (λ e. e.1) entries

abbrev pub new_journal : PacketRange → JournalState
new_journal by = record {
  entries = [];
  options = by;
  collector = made by.window by.reach by.first;
  feed = new_tracker;
  tally = new_tally;
  text = feed_line 1;
  stopped = false;
}

-- What a journal keeps: where it hasn't stopped, the report so far of its entries; else a front of that.
pub record IsKept (s : JournalState) : Type 0 where
  pub whole : s.stopped ≡ false → IsReportSoFar s.options (datagrams s.entries) s.collector s.feed s.tally s.text
  pub front : s.stopped ≡ true → IsPrefixSoFar s.options (datagrams s.entries) s.text

-- The entry stands behind the others, and its datagram was taken with this answer. All that it made ready was given, and its
-- lines stand behind the text; or the report has stopped: some first ones of these were given, and the text is as it was.
pub record JournalEnters (s : JournalState) (entry : ℕ × List ℕ) (answer : Taken) (s' : JournalState) : Type 0 where
  pub entries : s'.entries ≡ s.entries ++ entry ∷ []
  pub options : s'.options ≡ s.options
  pub kept : CollectorState
  pub takes : CollectorTakes s.collector entry.1 answer kept
  pub writes : s'.stopped ≡ false → WritesAll s.options.frame_limit kept s'.collector s.feed s'.feed (noted s.tally (length s.entries) answer) s'.tally s.text s'.text
  pub stops : s'.stopped ≡ true → s'.text ≡ s.text
  pub first : s'.stopped ≡ true → CountsFirst s.options.frame_limit kept s'.collector s.feed s'.feed (noted s.tally (length s.entries) answer) s'.tally

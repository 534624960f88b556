-- What a journal's fields stand for, and what holds of them.
use Rattle.std.specs.Prelude.{◌≡◌, map, false, None}
use Rattle.dcp_collect.specs.CollectorState.{ready}
use Rattle.law_collect.specs.Laws.{CollectorInvariant}
use Rattle.report_journal.specs.declared.journal.Journal.TheInside.{Inside}
use Rattle.recv_reading.specs.Options.{IsWithinLimits}
use Rattle.report_journal.specs.Journal.{JournalState, entry_of, IsKept}

abbrev pub state : Inside → JournalState
state j = record {
  entries = map entry_of j.entries.items;
  options = j.options;
  collector = j.collector;
  feed = j.feed;
  tally = j.counts;
  text = j.text.items;
  stopped = j.stopped;
}

-- more datagrams can be taken
pub record IsJournalOpen (s : JournalState) : Type 0 where
  pub fit : CollectorInvariant s.collector
  pub unfinished : s.collector.end ≡ None
  pub quiet : ready s.collector ≡ false

pub record JournalInvariant (j : Inside) : Type 0 where
  pub range : IsWithinLimits j.options
  pub kept : IsKept (state j)
  pub goes_on : j.stopped ≡ false → IsJournalOpen (state j)

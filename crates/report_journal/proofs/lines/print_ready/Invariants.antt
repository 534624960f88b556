use Rattle.std.proofs.Common.{◌-◌, ◌^◌}
use Rattle.report_journal.specs.Lines.{HasFed, JournalPrints}
use Rattle.report_journal.proofs.lines.print_ready.Given as goal

-- what was given so far was printed
abbrev pub invariant-items : goal.invariant-items
invariant-items g l =
    JournalPrints l.fn.collector l.collector l.fn.feed l.feed l.fn.counts l.counts (g.O.Sink.known l.fn.out) (g.O.Sink.known l.out)
    × HasFed l.frame_limit l.collector.next l.feed l.counts

abbrev pub decreases-items : goal.decreases-items
decreases-items g l = 2 ^ 62 - l.collector.next

use Rattle.std.proofs.Common.{◌≡◌}
use Rattle.recv_reading.specs.Options.{options_of}
use Rattle.recv_reading.specs.State.{ahead}
use Rattle.recv_reading.proofs.Looping.{Loop}
use Rattle.recv_report.specs.Progress.{HasPrinted}
use Rattle.recv_report.proofs.reading.read_all.Given as goal

-- the report has come so far, and no call has failed
abbrev pub invariant-answers : goal.invariant-answers
invariant-answers g l =
    Loop (options_of l.fn.collector l.fn.bounds) (g.R.Datagrams.so_far l.fn.from l.reader l.from)
    (HasPrinted (g.O.Sink.known l.fn.out) (g.O.Sink.known l.out) l.feed l.tally l.lines) l.reading l.collector
    × (g.R.Datagrams.faults l.from ≡ g.R.Datagrams.faults l.fn.from)
    × ((g.O.Sink.known l.out).faults ≡ (g.O.Sink.known l.fn.out).faults)
    × g.R.Datagrams.is_ready l.reader

abbrev pub decreases-answers : goal.decreases-answers
decreases-answers g l = ahead l.reading l.collector

use Rattle.std.proofs.Common.{◌≡◌}
use Rattle.recv_reading.specs.Options.{capture_options}
use Rattle.recv_reading.specs.Source.{ReadSoFar}
use Rattle.recv_reading.specs.State.{ahead}
use Rattle.recv_reading.proofs.Looping.{Loop}
use Rattle.cmd_unpack.proofs.Loop.{Taking}
use Rattle.cmd_unpack.proofs.reading.take_items.Given as goal

-- these items were taken, what is printed of them was written, and no call has failed
abbrev pub invariant-items : goal.invariant-items
invariant-items g l =
    Loop (capture_options l.fn.range) (ReadSoFar l.packets (g.I.Source.known l.fn.input) (g.I.Source.known l.input))
    (Taking l.fn.taker l.taker l.feed.calls (g.O.Sink.known l.fn.out) (g.O.Sink.known l.out)) l.reading l.collector
    × ((g.I.Source.known l.input).faults ≡ (g.I.Source.known l.fn.input).faults)
    × ((g.O.Sink.known l.out).faults ≡ (g.O.Sink.known l.fn.out).faults)

abbrev pub decreases-items : goal.decreases-items
decreases-items g l = ahead l.reading l.collector

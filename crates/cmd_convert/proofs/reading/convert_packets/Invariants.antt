use Rattle.std.proofs.Common.{◌≡◌}
use Rattle.recv_reading.specs.Options.{capture_options}
use Rattle.recv_reading.specs.Source.{ReadSoFar}
use Rattle.recv_reading.specs.State.{ahead}
use Rattle.recv_reading.proofs.Looping.{Loop}
use Rattle.cmd_convert.proofs.Reaching.{Converting}
use Rattle.cmd_convert.proofs.reading.convert_packets.Given as goal

-- all that was given was converted, and no call has failed
abbrev pub invariant-packets : goal.invariant-packets
invariant-packets g l =
    Loop (capture_options l.fn.range)
    (ReadSoFar l.packets (g.I.Source.known l.fn.input) (g.I.Source.known l.input))
    (Converting l.fn.cutter l.progress (g.O.Sink.known l.fn.out) (g.O.Sink.known l.out)
    (g.E.Sink.known l.fn.err) (g.E.Sink.known l.err)) l.reading l.collector
    × (l.cutter ≡ l.fn.cutter)
    × ((g.I.Source.known l.input).faults ≡ (g.I.Source.known l.fn.input).faults)
    × ((g.O.Sink.known l.out).faults ≡ (g.O.Sink.known l.fn.out).faults)

abbrev pub decreases-packets : goal.decreases-packets
decreases-packets g l = ahead l.reading l.collector

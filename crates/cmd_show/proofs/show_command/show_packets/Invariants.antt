use Rattle.std.proofs.Common.{◌≡◌, ◌-◌, ◌≤◌}
use Rattle.capture_reader.specs.Capture.{most_bytes}
use Rattle.cmd_show.proofs.ShowLemmas.{HasShown}
use Rattle.cmd_show.proofs.show_command.show_packets.Given as goal

-- so many packets were read and shown
abbrev pub invariant-loop-packets : goal.invariant-loop-packets
invariant-loop-packets g l =
    HasShown l.packets (g.I.Source.known l.fn.input) (g.I.Source.known l.input) (g.O.Sink.known l.fn.out) (g.O.Sink.known l.out) l.count l.bytes l.clean
    × (l.count ≤ l.bytes)
    × ((g.I.Source.known l.input).faults ≡ (g.I.Source.known l.fn.input).faults)
    × ((g.O.Sink.known l.out).faults ≡ (g.O.Sink.known l.fn.out).faults)

abbrev pub decreases-loop-packets : goal.decreases-loop-packets
decreases-loop-packets g l = most_bytes - l.packets.at

use Rattle.std.proofs.Common.{length}
use Rattle.cmd_pack.proofs.Written.{Packs}
use Rattle.cmd_pack.proofs.packing.write_packets.Given as goal

-- the units before the rest were written
abbrev pub invariant-units : goal.invariant-units
invariant-units g l = Packs l.id l.length l.bytes l.rest l.packer (g.O.Sink.known l.fn.out) (g.O.Sink.known l.out)

abbrev pub decreases-units : goal.decreases-units
decreases-units g l = length l.rest

use Rattle.std.proofs.Common.{◌≡◌, ◌+◌, length}
use Rattle.cmd_unpack.proofs.Pieces.{Come}
use Rattle.cmd_unpack.proofs.units.UnitTaker.take_pieces.Given as goal

-- the pieces before the rest were taken
abbrev pub invariant-pieces : goal.invariant-pieces
invariant-pieces g l = Come l.fn.self l.self l.bytes l.rest (g.O.Sink.known l.fn.out) (g.O.Sink.known l.out) × (l.size ≡ l.fn.self.length + 3)

abbrev pub decreases-pieces : goal.decreases-pieces
decreases-pieces g l = length l.rest

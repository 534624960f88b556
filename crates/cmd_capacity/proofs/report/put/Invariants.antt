use Rattle.std.proofs.Common.{◌≡◌, ◌++◌, drop}
use Rattle.cmd_capacity.specs.Pieces.{text_of}
use Rattle.cmd_capacity.proofs.report.put.Given as goal

abbrev pub invariant-loop-piece : goal.invariant-loop-piece
invariant-loop-piece l = l.out.items ++ text_of (drop l.piece-index l.pieces) ≡ l.fn.out.items ++ text_of l.pieces

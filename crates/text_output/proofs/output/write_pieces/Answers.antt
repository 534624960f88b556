use Rattle.std.proofs.lemmas.Result.{err_from_is_err_and}
use Rattle.text_output.specs.Text.{piece_text}
use Rattle.text_output.proofs.TextLemmas.{next_broken}
use Rattle.text_output.proofs.output.write_pieces.Goals as goal

pub returns-in_err-write_piece : goal.returns-in_err-write_piece
returns-in_err-write_piece g c =
    let p = err_from_is_err_and c.from_residual.result c.from_residual.ensures.1 in
    rw p.1
    (next_broken piece_text c.args.pieces.now c.loop-piece.piece-index _ c.loop-piece-test.true (g.O.Sink.known c.args.out.now) (g.O.Sink.known c.loop-piece.out) (g.O.Sink.known c.write_piece.new.out) c.write_piece.result c.in_err-write_piece.field-0.0 p.0
    c.loop-piece.invariant.0 c.loop-piece.invariant.1 c.in_err-write_piece.was c.write_piece.ensures)

use Rattle.std.proofs.Common.{refl}
use Rattle.std.proofs.lemmas.List.Concat.{flat_map-cons}
use Rattle.plan_writer.proofs.TextLemmas.{one_written, all_written}
use Rattle.cmd_capacity.specs.Pieces.{piece_text, text_of}
use Rattle.cmd_capacity.proofs.report.put.Goals as goal

pub loop-piece-preserved : goal.loop-piece-preserved
loop-piece-preserved c =
    one_written text_of piece_text (λ x rest. flat_map-cons piece_text x rest) c.loop-piece.out.items c.put_piece.new.out.items c.loop-piece.piece-index c.args.pieces.now _ _ _ c.loop-piece-test.true refl c.loop-piece.invariant c.in_ok-put_piece.ensures

pub returns : goal.returns
returns c = all_written text_of refl c.loop-piece.out.items c.loop-piece.piece-index c.args.pieces.now _ c.loop-piece-test.false c.loop-piece.invariant

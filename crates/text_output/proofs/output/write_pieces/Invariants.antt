use Rattle.std.proofs.Common.{◌≡◌, take}
use Rattle.drm_links.specs.Sink.{OutputsText}
use Rattle.text_output.specs.Text.{text_of}
use Rattle.text_output.proofs.output.write_pieces.Given as goal

-- the pieces before this one were written
abbrev pub invariant-loop-piece : goal.invariant-loop-piece
invariant-loop-piece g l =
    OutputsText (g.O.Sink.known l.fn.out) (g.O.Sink.known l.out) (λ text. text ≡ text_of (take l.piece-index l.pieces))
    × ((g.O.Sink.known l.out).faults ≡ (g.O.Sink.known l.fn.out).faults)

use Rattle.std.proofs.Common.{◌≡◌, ◌++◌, length}
use Rattle.drm_links.specs.Sink.{OutputsText}
use Rattle.drm_links.proofs.writing.write_all.Given as goal

-- what was written so far, and the rest, are the bytes
abbrev pub invariant-loop-rest : goal.invariant-loop-rest
invariant-loop-rest g l =
    OutputsText (g.O.Sink.known l.fn.out) (g.O.Sink.known l.out) (λ text. text ++ l.rest ≡ l.bytes)
    × ((g.O.Sink.known l.out).faults ≡ (g.O.Sink.known l.fn.out).faults)

abbrev pub decreases-loop-rest : goal.decreases-loop-rest
decreases-loop-rest g l = length l.rest

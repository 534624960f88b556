use Rattle.std.proofs.Common.{◌≡◌, ◌++◌, length}
use Rattle.hex.specs.Hex.{encode_lower}
use Rattle.drm_links.specs.Sink.{OutputsText}
use Rattle.text_output.proofs.output.write_hex.Given as goal

-- what was written so far, and the digits of the rest, are those of the bytes
abbrev pub invariant-loop-rest : goal.invariant-loop-rest
invariant-loop-rest g l =
    OutputsText (g.O.Sink.known l.fn.out) (g.O.Sink.known l.out) (λ text. text ++ encode_lower l.rest ≡ encode_lower l.bytes)
    × ((g.O.Sink.known l.out).faults ≡ (g.O.Sink.known l.fn.out).faults)

abbrev pub decreases-loop-rest : goal.decreases-loop-rest
decreases-loop-rest g l = length l.rest

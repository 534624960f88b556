use Rattle.std.proofs.Common.{◌≡◌, take, flat_map}
use Rattle.drm_links.specs.Sink.{OutputsText}
use Rattle.cmd_unpack.specs.Lines.{escaped}
use Rattle.cmd_unpack.proofs.lines.write_escaped.Given as goal

-- the bytes before this one were written
abbrev pub invariant-loop-byte : goal.invariant-loop-byte
invariant-loop-byte g l =
    OutputsText (g.O.Sink.known l.fn.out) (g.O.Sink.known l.out) (λ text. text ≡ flat_map escaped (take l.byte-index l.bytes))
    × ((g.O.Sink.known l.out).faults ≡ (g.O.Sink.known l.fn.out).faults)

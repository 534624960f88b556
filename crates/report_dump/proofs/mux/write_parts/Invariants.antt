use Rattle.std.proofs.Common.{◌≡◌, take}
use Rattle.std.specs.List.{flat_map}
use Rattle.drm_links.specs.Sink.{OutputsText}
use Rattle.report_dump.specs.Lines.{part_text}
use Rattle.report_dump.proofs.mux.write_parts.Given as goal

-- those before this one were written
abbrev pub invariant-loop-part : goal.invariant-loop-part
invariant-loop-part g l =
    OutputsText (g.O.Sink.known l.fn.out) (g.O.Sink.known l.out) (λ text. text ≡ flat_map part_text (take l.part-index l.parts))
    × ((g.O.Sink.known l.out).faults ≡ (g.O.Sink.known l.fn.out).faults)

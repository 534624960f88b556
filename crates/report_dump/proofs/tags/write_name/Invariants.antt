use Rattle.std.proofs.Common.{◌≡◌, take}
use Rattle.std.specs.List.{flat_map}
use Rattle.drm_links.specs.Sink.{OutputsText}
use Rattle.report_dump.specs.Lines.{name_byte}
use Rattle.report_dump.proofs.tags.write_name.Given as goal

-- those before this one were written
abbrev pub invariant-loop-byte : goal.invariant-loop-byte
invariant-loop-byte g l =
    OutputsText (g.O.Sink.known l.fn.out) (g.O.Sink.known l.out) (λ text. text ≡ flat_map name_byte (take l.byte-index l.name))
    × ((g.O.Sink.known l.out).faults ≡ (g.O.Sink.known l.fn.out).faults)

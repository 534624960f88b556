use Rattle.std.proofs.Common.{◌≡◌, take}
use Rattle.std.specs.List.{flat_map}
use Rattle.drm_links.specs.Sink.{OutputsText}
use Rattle.mdi_items.specs.Frame.{frame_of}
use Rattle.report_text.specs.FrameParts.{part_text}
use Rattle.report_text.proofs.frame_line.write_parts.Given as goal

-- the parts before this one were written
abbrev pub invariant-loop-part : goal.invariant-loop-part
invariant-loop-part g l =
    OutputsText (g.O.Sink.known l.fn.out) (g.O.Sink.known l.out) (λ text. text ≡ flat_map (part_text (frame_of l.view) l.view.payload.now) (take l.part-index l.parts))
    × ((g.O.Sink.known l.out).faults ≡ (g.O.Sink.known l.fn.out).faults)

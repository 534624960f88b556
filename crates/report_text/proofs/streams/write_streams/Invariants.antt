use Rattle.std.proofs.Common.{◌≡◌, ◌++◌, drop}
use Rattle.hex.specs.Hex.{encode_lower}
use Rattle.drm_links.specs.Sink.{OutputsText}
use Rattle.drm_mux.specs.Frame.{multiplex_frame, streams_in}
use Rattle.drm_mux.specs.Ranges.{ranges}
use Rattle.drm_mux.proofs.RangeLemmas.{cut}
use Rattle.report_text.proofs.streams.write_streams.Given as goal

-- what was written so far, and the digits of the parts from this one on, are those of the frame
abbrev pub invariant-loop-index : goal.invariant-loop-index
invariant-loop-index g l =
    OutputsText (g.O.Sink.known l.fn.out) (g.O.Sink.known l.out) (λ text.
    text ++ encode_lower (cut l.payload (drop l.index (ranges l.mux l.streams))) ≡ encode_lower (multiplex_frame l.mux (streams_in l.payload l.streams)))
    × ((g.O.Sink.known l.out).faults ≡ (g.O.Sink.known l.fn.out).faults)

use Rattle.std.proofs.Common.{◌≡◌, length}
use Rattle.drm_server.specs.Stretch.{first_in}
use Rattle.live_server.specs.Capture.{WroteEach}
use Rattle.live_server.specs.Feeding.{HasMade}
use Rattle.live_server.proofs.live_capture.write_frames.Given as goal

-- n frames were written, with the bytes that came for them
abbrev pub invariant-loop-n : goal.invariant-loop-n
invariant-loop-n g l =
    HasMade l.live l.fn.server.base (first_in l.stretch) l.n l.ended (g.I.Source.known l.fn.input) (g.I.Source.known l.input)
    (WroteEach (first_in l.stretch) l.n (g.O.Sink.known l.fn.out) (g.O.Sink.known l.out))
    × ((g.I.Source.known l.input).faults ≡ (g.I.Source.known l.fn.input).faults)
    × ((g.O.Sink.known l.out).faults ≡ (g.O.Sink.known l.fn.out).faults)
    × (l.server.base ≡ l.fn.server.base)
    × (length l.scratch ≡ length l.fn.scratch)
    × (l.live ≡ l.fn.live)
    × (l.stretch ≡ l.fn.stretch)

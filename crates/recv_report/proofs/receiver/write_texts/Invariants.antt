use Rattle.std.proofs.Common.{◌≡◌, take, flat_map}
use Rattle.drm_links.specs.Sink.{OutputsText}
use Rattle.recv_report.specs.Receivers.{text_of}
use Rattle.recv_report.proofs.receiver.write_texts.Given as goal

-- the texts before this one were written
abbrev pub invariant-loop-receiver : goal.invariant-loop-receiver
invariant-loop-receiver g l =
    OutputsText (g.O.Sink.known l.fn.out) (g.O.Sink.known l.out) (λ text. text ≡ flat_map (λ receiver. text_of receiver) (take l.receiver-index l.receivers))
    × ((g.O.Sink.known l.out).faults ≡ (g.O.Sink.known l.fn.out).faults)

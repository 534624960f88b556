use Rattle.std.proofs.Common.{◌≡◌}
use Rattle.std.specs.Io.KnownBytes.{Keeps}
use Rattle.drm_adapt.proofs.streams.StreamSinkSink.write.Given as goal

-- an interrupted call is no fault, and moves no byte
abbrev pub invariant-loop : goal.invariant-loop
invariant-loop g l =
    (l.self.faults ≡ l.fn.self.faults) × Keeps (g.W.Write.contents l.fn.self.stream) (g.W.Write.contents l.self.stream)

use Rattle.std.proofs.Common.{◌≡◌}
use Rattle.std.specs.Io.KnownBytes.{Keeps}
use Rattle.drm_adapt.proofs.streams.StreamSourceSource.read.Given as goal

-- an interrupted call is no fault, and moves no byte
abbrev pub invariant-loop : goal.invariant-loop
invariant-loop g l =
    (l.self.faults ≡ l.fn.self.faults) × Keeps (g.R.Read.remaining l.fn.self.stream) (g.R.Read.remaining l.self.stream)

use Rattle.std.proofs.Common.{◌≡◌}
use Rattle.drm_adapt.proofs.udp_dock.UdpDock.open_all.Given as goal

abbrev pub invariant-loop-k : goal.invariant-loop-k
invariant-loop-k g l = l.self.faults ≡ l.fn.self.faults

use Rattle.std.proofs.Common.{◌≡◌}
use Rattle.drm_adapt.proofs.udp_dock.UdpDock.put_all_back.Given as goal

abbrev pub invariant-loop-link : goal.invariant-loop-link
invariant-loop-link g l = l.self.faults ≡ l.fn.self.faults

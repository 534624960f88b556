use Rattle.std.proofs.Common.{refl}
use Rattle.drm_adapt.proofs.udp_group.UdpGroupGroup.send.Goals as goal

pub returns-then-eq-clause-tells : goal.returns-then-eq-clause-tells
returns-then-eq-clause-tells g c = record { told = refl; faults = c.faults_after_send-self.ensures c.args.k c.args.bytes.now }

pub returns-else-eq-clause-tells : goal.returns-else-eq-clause-tells
returns-else-eq-clause-tells g c = record { told = refl; faults = c.faults_after_send-self.ensures c.args.k c.args.bytes.now }

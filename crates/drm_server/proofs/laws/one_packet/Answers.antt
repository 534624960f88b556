use Rattle.drm_server.proofs.OnePacket.{one_packet}
use Rattle.drm_server.proofs.laws.one_packet.Goals as goal

pub returns : goal.returns
returns c = one_packet

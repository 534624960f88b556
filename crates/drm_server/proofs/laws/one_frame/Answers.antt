use Rattle.drm_server.proofs.OnePacket.{one_frame}
use Rattle.drm_server.proofs.laws.one_frame.Goals as goal

pub returns : goal.returns
returns c = one_frame

use Rattle.drm_server.proofs.OneDelivery.{one_capture}
use Rattle.drm_server.proofs.laws.one_capture.Goals as goal

pub returns : goal.returns
returns c = one_capture c.one_fragment.ensures

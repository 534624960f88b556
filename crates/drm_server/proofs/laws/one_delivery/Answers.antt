use Rattle.drm_server.proofs.OneDelivery.{one_delivery}
use Rattle.drm_server.proofs.laws.one_delivery.Goals as goal

pub returns : goal.returns
returns c = one_delivery c.one_fragment.ensures

use Rattle.drm_server.proofs.OneDelivery.{first_ones_are_prefix}
use Rattle.drm_server.proofs.laws.first_ones_are_prefix.Goals as goal

pub returns : goal.returns
returns c = first_ones_are_prefix c.one_fragment.ensures

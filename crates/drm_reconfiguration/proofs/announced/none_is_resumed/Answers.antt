use Rattle.drm_reconfiguration.proofs.AnnouncedLemmas.{none_resumed}
use Rattle.drm_reconfiguration.proofs.announced.none_is_resumed.Goals as goal

pub returns : goal.returns
returns c = none_resumed

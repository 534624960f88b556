use Rattle.drm_reconfiguration.proofs.AnnouncedLemmas.{at_all_starts}
use Rattle.drm_reconfiguration.proofs.announced.switches_at_all_starts.Goals as goal

pub returns : goal.returns
returns c = at_all_starts

use Rattle.drm_reconfiguration.proofs.AnnouncedLemmas.{only_at_starts}
use Rattle.drm_reconfiguration.proofs.announced.switches_only_at_starts.Goals as goal

pub returns : goal.returns
returns c = only_at_starts

use Rattle.drm_reconfiguration.proofs.TrackerLemmas.{tells_the_switches}
use Rattle.drm_reconfiguration.proofs.tracker.the_tracker_tells_the_switches.Goals as goal

pub returns : goal.returns
returns c = tells_the_switches

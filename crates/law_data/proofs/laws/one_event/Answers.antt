use Rattle.drm_data.proofs.Joinings.{one_event}
use Rattle.law_data.proofs.laws.one_event.Goals as goal

pub returns : goal.returns
returns c = one_event

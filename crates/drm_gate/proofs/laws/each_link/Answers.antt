use Rattle.drm_gate.proofs.EachLink.{each_takes}
use Rattle.drm_gate.proofs.WentLemmas.{each_gets}
use Rattle.drm_gate.proofs.laws.each_link.Goals as goal

pub returns-clause-gets : goal.returns-clause-gets
returns-clause-gets c = each_gets

pub returns-clause-takes : goal.returns-clause-takes
returns-clause-takes c = each_takes

use Rattle.std.proofs.Common.{◌∙◌, sym}
use Rattle.drm_plan.proofs.ListLemmas.{one_more}
use Rattle.drm_plan.proofs.configs.gathered.Goals as goal

pub loop-said-preserved : goal.loop-said-preserved
loop-said-preserved c = c.in_ok-put.ensures ∙ rw c.loop-said.invariant (sym (one_more c.loop-said.yielded c.in-Some.said))

use Rattle.std.proofs.Common.{◌∙◌, sym}
use Rattle.drm_plan.proofs.ListLemmas.{one_config_more}
use Rattle.drm_plan.proofs.lists.make_lists.Goals as goal

pub loop-block-preserved : goal.loop-block-preserved
loop-block-preserved c = c.in_ok-put.ensures ∙ rw c.loop-block.invariant (sym (one_config_more c.loop-block.yielded c.in-Some.block))

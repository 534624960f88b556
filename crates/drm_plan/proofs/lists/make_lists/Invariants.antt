use Rattle.std.proofs.Common.{◌≡◌}
use Rattle.drm_plan.specs.ConfigTable.{lists_of}
use Rattle.drm_plan.proofs.lists.make_lists.Given as goal

abbrev pub invariant-loop-block : goal.invariant-loop-block
invariant-loop-block l = l.lists ≡ lists_of l.yielded

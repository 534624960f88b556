use Rattle.std.proofs.Common.{◌≡◌}
use Rattle.drm_plan.specs.ConfigParts.{parts_of}
use Rattle.drm_plan.proofs.configs.gathered.Given as goal

abbrev pub invariant-loop-said : goal.invariant-loop-said
invariant-loop-said l = l.parts ≡ parts_of l.yielded

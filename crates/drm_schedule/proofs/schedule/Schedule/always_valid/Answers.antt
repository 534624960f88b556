use Rattle.std.proofs.Common.{None, subst}
use Rattle.drm_schedule.specs.declared.plan.Plan.{Plan}
use Rattle.drm_schedule.specs.Valid.{IsSchedule}
use Rattle.drm_schedule.proofs.Faultless.{all_faultless}
use Rattle.drm_schedule.proofs.schedule.Schedule.always_valid.Goals as goal

is_schedule : (c : goal.After-self) → IsSchedule c.args.self.now
is_schedule c = let P : Plan → Type 0 = λ plan. IsSchedule plan in subst P c.self.view_is c.self.invariant

pub returns : goal.returns
returns c =
    record { schedule = is_schedule c; faultless = all_faultless c.args.self.now 0 None c.args.self.now.configs (is_schedule c).valid }

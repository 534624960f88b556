use Rattle.std.proofs.Common.{◌≡◌, true, false, List, None, sym, subst}
use Rattle.dcp_pft.specs.declared.carry.Carry.TheVariants.{Pft}
use Rattle.drm_schedule.specs.declared.config.Config.{Config}
use Rattle.drm_schedule.specs.declared.plan.Plan.{Plan}
use Rattle.drm_schedule.specs.Valid.{first_invalid}
use Rattle.cmd_exercise.proofs.ValidPlan.{valid}
use Rattle.cmd_exercise.proofs.schedule.schedule_of.Goals as goal

pub unreachable-requires : goal.unreachable-requires
unreachable-requires c =
    let P : List Config → Plan = λ list. record { carry = Pft 2 1400; seq = 65000; dlfc = 4294967000; length = c.args.n; configs = list } in
    let none : first_invalid (P c.in_ok-configs.configs) ≡ None = subst (λ list. first_invalid (P list) ≡ None) (sym c.in_ok-configs.ensures) (valid c.args.n) in
    let other : false ≡ true = c.in-Err.ensures.valid.1 none in
    cc

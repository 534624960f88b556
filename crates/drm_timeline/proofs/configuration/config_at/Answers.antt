use Rattle.std.proofs.Common.{sym, ap, ◌∙◌, filter, List, None}
use Rattle.std.specs.List.{last_or}
use Rattle.drm_schedule.specs.declared.config.Config.{Config}
use Rattle.drm_timeline.specs.Standing.{has_started}
use Rattle.drm_timeline.proofs.ScheduleLemmas.{some_config}
use Rattle.drm_timeline.proofs.configuration.config_at.Goals as goal

pub unreachable-requires : goal.unreachable-requires
unreachable-requires c =
    let same = c.as_slice.ensures ∙ c.configs.ensures in
    some_config c.args.plan.now c.args.sf c.args.plan.now.configs c.always_valid.ensures.schedule.in_lines.some_config c.always_valid.ensures.faultless
    (ap (λ (l : List Config). last_or None (filter (has_started c.args.sf) l)) (sym same) ∙ sym c.in-None.ensures.config)

use Rattle.std.proofs.Common.{None, List, All, subst, sym, ◌∙◌}
use Rattle.drm_schedule.specs.declared.config.Config.{Config}
use Rattle.cmd_capacity.specs.Asked.{HasChannel}
use Rattle.cmd_capacity.proofs.ChannelLemmas.{have_channels}
use Rattle.cmd_capacity.proofs.report.write_report.Goals as goal

pub put_configs-requires : goal.put_configs-requires
put_configs-requires c =
    let P : List Config → Type 0 = λ configs. All HasChannel configs in
    subst P (sym (c.as_slice-configs.ensures ∙ c.configs.ensures))
    (have_channels c.args.schedule.now None c.args.schedule.now.configs c.always_valid.ensures.faultless c.always_valid.ensures.schedule.in_lines.each_config)

pub unfit_count-requires : goal.unfit_count-requires
unfit_count-requires c =
    let P : List Config → Type 0 = λ configs. All HasChannel configs in
    subst P (sym (c.as_slice-configs.ensures ∙ c.configs.ensures))
    (have_channels c.args.schedule.now None c.args.schedule.now.configs c.always_valid.ensures.faultless c.always_valid.ensures.schedule.in_lines.each_config)

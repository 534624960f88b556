use Rattle.std.proofs.Common.{refl}
use Rattle.std.specs.List.{flat_map}
use Rattle.std.proofs.lemmas.List.Concat.{flat_map-cons}
use Rattle.plan_writer.proofs.TextLemmas.{one_written, all_written}
use Rattle.cmd_capacity.specs.Report.{config_lines}
use Rattle.cmd_capacity.proofs.report.put_configs.Goals as goal

pub loop-config-preserved : goal.loop-config-preserved
loop-config-preserved c =
    one_written (flat_map config_lines) config_lines (λ x rest. flat_map-cons config_lines x rest) c.loop-config.out.items c.put_config.new.out.items c.loop-config.config-index c.args.configs.now c.config-item.result _ _ c.loop-config-test.true c.config-item.is c.loop-config.invariant c.in_ok-put_config.ensures

pub returns : goal.returns
returns c = all_written (flat_map config_lines) refl c.loop-config.out.items c.loop-config.config-index c.args.configs.now _ c.loop-config-test.false c.loop-config.invariant

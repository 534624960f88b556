use Rattle.std.proofs.Common.{◌≡◌, ◌++◌, drop}
use Rattle.std.specs.List.{flat_map}
use Rattle.cmd_capacity.specs.Report.{config_lines}
use Rattle.cmd_capacity.proofs.report.put_configs.Given as goal

abbrev pub invariant-loop-config : goal.invariant-loop-config
invariant-loop-config l = l.out.items ++ flat_map config_lines (drop l.config-index l.configs) ≡ l.fn.out.items ++ flat_map config_lines l.configs

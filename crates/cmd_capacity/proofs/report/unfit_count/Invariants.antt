use Rattle.std.proofs.Common.{◌≡◌, ◌+◌, ◌≤◌, drop}
use Rattle.cmd_capacity.specs.Report.{unfit_count}
use Rattle.cmd_capacity.proofs.report.unfit_count.Given as goal

abbrev pub invariant-loop-config : goal.invariant-loop-config
invariant-loop-config l = (l.count + unfit_count (drop l.config-index l.configs) ≡ unfit_count l.configs) × (l.count ≤ l.config-index)

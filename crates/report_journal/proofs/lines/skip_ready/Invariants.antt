use Rattle.std.proofs.Common.{◌-◌, ◌^◌, List}
use Rattle.dcp_collect.specs.Runs.{CollectorItem}
use Rattle.law_collect.specs.Laws.{GivesSoFar}
use Rattle.report_journal.proofs.lines.skip_ready.Given as goal

abbrev pub invariant-past : goal.invariant-past
invariant-past l = (items : List CollectorItem) × GivesSoFar l.fn.collector items l.collector

abbrev pub decreases-past : goal.decreases-past
decreases-past l = 2 ^ 62 - l.collector.next

use Rattle.std.proofs.Common.{◌≡◌, map, length}
use Rattle.plan_rows.specs.Tables.{line_reads}
use Rattle.plan_rows.proofs.read.read_line.Given as goal

abbrev pub invariant-loop-left : goal.invariant-loop-left
invariant-loop-left l = line_reads l.left l.version l.keyword l.line (map (λ w. w.now) l.words) ≡ line_reads l.table l.version l.keyword l.line (map (λ w. w.now) l.words)

abbrev pub decreases-loop-left : goal.decreases-loop-left
decreases-loop-left l = length l.left

use Rattle.std.proofs.Common.{◌≡◌, length}
use Rattle.plan_rows.specs.Tables.{keyword_in}
use Rattle.plan_rows.proofs.rows.keyword_in.Given as goal

abbrev pub invariant-loop-left : goal.invariant-loop-left
invariant-loop-left l = keyword_in l.left l.version l.word ≡ keyword_in l.table l.version l.word

abbrev pub decreases-loop-left : goal.decreases-loop-left
decreases-loop-left l = length l.left

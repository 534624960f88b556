use Rattle.dcp_pft.specs.Turning.{TakesRows}
use Rattle.dcp_pft.proofs.turn.take_rows.Given as goal

-- the rows so far are taken
abbrev pub invariant-loop-p : goal.invariant-loop-p
invariant-loop-p l = TakesRows l.count l.first l.p l.coded l.into

use Rattle.dcp_pft.proofs.Turned.{one_row}
use Rattle.dcp_pft.proofs.turn.take_rows.Goals as goal

pub loop-p-preserved : goal.loop-p-preserved
loop-p-preserved c =
    one_row c.args.count c.args.first c.loop-p.p c.args.coded.now c.loop-p.into c.take_row.new.into c.loop-p.invariant c.take_row.ensures.before c.take_row.ensures.taken

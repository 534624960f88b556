use Rattle.dcp_pft.proofs.Turned.{turned}
use Rattle.dcp_pft.proofs.turn.turn.Goals as goal

pub returns-clause-turned : goal.returns-clause-turned
returns-clause-turned c =
    turned c.args.height c.args.rows.now c.halve.new.into c.halve-2.new.into c.halve-3.new.into c.halve-4.new.into c.halve.ensures.halved c.halve-2.ensures.halved c.halve-3.ensures.halved c.halve-4.ensures.halved

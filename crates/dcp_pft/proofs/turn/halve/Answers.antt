use Rattle.std.proofs.Common.{◌*◌, arith}
use Rattle.dcp_pft.proofs.Turned.{sixteen_more}
use Rattle.dcp_pft.proofs.turn.halve.Goals as goal

pub loop-i-preserved : goal.loop-i-preserved
loop-i-preserved c = λ n below.
    sixteen_more c.args.half (16 * c.loop-i.i) c.args.from.now c.loop-i.into c.halve_part.new.into c.loop-i.invariant c.halve_part.ensures.before c.halve_part.ensures.here n (omega (arith, below))

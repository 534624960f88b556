use Rattle.std.proofs.Common.{below_more, arith}
use Rattle.std.specs.Cmp.Lexicographic.{other_text}
use Rattle.mdi_items.proofs.names.place_of.Goals as goal

pub loop-place-preserved : goal.loop-place-preserved
loop-place-preserved c = below_more _ _ c.loop-place.invariant (other_text _ _ c.if-eq.ensures)

pub returns-clause-unknown : goal.returns-clause-unknown
returns-clause-unknown c = λ known. c.loop-place.invariant known.0 (omega arith) known.2

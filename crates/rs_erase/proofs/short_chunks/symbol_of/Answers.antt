use Rattle.std.proofs.Common.{get_or, ap, refl, ◌∙◌}
use Rattle.gf_field.specs.Field.{times}
use Rattle.rs_erase.specs.Short.{symbol_sum}
use Rattle.rs_erase.proofs.ShortChunks.{next_symbol}
use Rattle.rs_erase.proofs.short_chunks.symbol_of.Goals as goal

pub loop-j-init : goal.loop-j-init
unfolding symbol_sum
loop-j-init c = refl

pub loop-j-preserved : goal.loop-j-preserved
loop-j-preserved c =
    next_symbol c.args.chunk.now c.args.symbol c.loop-j.j c.loop-j.sum _ c.loop-j.invariant
    (c.sum.view_is ∙ c.mul.ensures.value ∙ ap (times (get_or c.args.chunk.now c.loop-j.j 0)) c.remainder_at.ensures)

use Rattle.std.proofs.Common.{arith}
use Rattle.std.proofs.lemmas.Nat.{mod_below}
use Rattle.drm_fac.proofs.OrderLemmas.{round}
use Rattle.drm_fac.proofs.order.pattern.Goals as goal

pub nonzero_rem-place : goal.nonzero_rem-place
nonzero_rem-place c = omega (arith, (round c.args.audio c.args.data_count c.requires).0, c.from.ensures, c.order_len.ensures)

pub overflow_cast-place : goal.overflow_cast-place
overflow_cast-place c = omega (arith, mod_below c.args.phase c.from.result (nonzero_rem-place c), c.from.ensures, c.order_len.type_inv)

pub at_place-requires-clause-place : goal.at_place-requires-clause-place
at_place-requires-clause-place c =
    omega (arith, mod_below c.args.phase c.from.result (nonzero_rem-place c), c.from.ensures, c.order_len.ensures)

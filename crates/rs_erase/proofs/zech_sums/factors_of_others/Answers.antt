use Rattle.std.proofs.Common.{◌-◌, ◌+◌, arith, get_or}
use Rattle.rs_erase.proofs.ZechSums.{logarithm_small}
use Rattle.rs_erase.proofs.zech_sums.factors_of_others.Goals as goal

pub overflow_cast-count : goal.overflow_cast-count
overflow_cast-count c =
    let p = c.loop-p.p in
    let few = c.requires.enough in
    let small = c.requires.bounded (207 + p) (omega (arith, c.loop-p-test.true)) in
    let most = logarithm_small c.args.count (47 - p) (get_or c.args.sums.now (207 + p) 0) few (omega arith) small in
    record { fits = omega (arith, most) }

use Rattle.std.proofs.Common.{◌<◌, length, arith}
use Rattle.rs_erase.proofs.ErasedPlaces.{locators_by_index}
use Rattle.rs_erase.proofs.places.write_locators.Goals as goal

pub overflow_sub-from : goal.overflow_sub-from
overflow_sub-from c =
    let lt : c.loop-i.i < length c.args.places.now = omega arith in
    let r = c.requires.places.below c.loop-i.i lt in
    omega (arith, c.from.ensures, r)

pub returns : goal.returns
returns c =
    locators_by_index c.args.places.now c.loop-i.locators (omega arith) (λ k lt. c.loop-i.invariant k (omega arith))

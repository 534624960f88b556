use Rattle.std.proofs.Common.{◌∷◌, [], ◌++◌, arith}
use Rattle.cmd_pack.proofs.Files.{units_more, begin_size}
use Rattle.cmd_pack.proofs.units.judge.Goals as goal

pub units-preserved : goal.units-preserved
units-preserved c =
    let (units, are, short) = c.units.invariant in
    let begins = c.in-Unit.ensures in (
      units ++ c.in-Unit.unit.now ∷ [],
      units_more units c.in-Unit.unit.now c.units.rest.now c.in-Unit.behind.now c.args.bytes.now are begins,
      omega (arith, short, begin_size c.in-Unit.unit.now c.in-Unit.behind.now c.units.rest.now begins),
    )

use Rattle.std.proofs.Common.{◌≡◌, ◌+◌, refl}
use Rattle.cmd_unpack.specs.declared.units.UnitTaker.{UnitTaker}
use Rattle.cmd_unpack.specs.Lines.{cut_line}
use Rattle.cmd_unpack.proofs.Items.{on_ok}
use Rattle.cmd_unpack.proofs.Joining.{joins_gap}
use Rattle.cmd_unpack.proofs.units.UnitTaker.gap.Goals as goal

pub returns-clause-takes : goal.returns-clause-takes
returns-clause-takes g c =
    let t : UnitTaker = c.args.self.now in
    let u : UnitTaker = record { stream = t.stream; length = t.length; joiner = c.gap-cut.new.self; counts = record t.counts { cut = t.counts.cut + c.from.result } } in
    record {
      after = u;
      line = cut_line c.gap-cut.result;
      joins = joins_gap t c.gap-cut.new.self c.from.result c.gap-cut.result c.gap-cut.ensures.cut c.gap-cut.ensures.after c.from.ensures;
      writes = c.write_cut.ensures;
      after_is = on_ok c.write_cut.result (u ≡ u) refl;
    }

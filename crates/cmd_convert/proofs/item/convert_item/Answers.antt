use Rattle.std.proofs.Common.{refl}
use Rattle.dcp_collect.specs.Runs.{Lost, Damaged}
use Rattle.cmd_convert.proofs.ItemLemmas.{named}
use Rattle.cmd_convert.proofs.item.convert_item.Goals as goal

pub returns-in-Lost-clause-one : goal.returns-in-Lost-clause-one
returns-in-Lost-clause-one g c =
    rw c.in-Lost.is
    (named c.args.cutter.now c.args.first (Lost c.in-Lost.index c.in-Lost.had c.in-Lost.of) _ c.args.progress.now c.name.new.progress (g.O.Sink.known c.args.out.now) (g.E.Sink.known c.args.err.now) (g.E.Sink.known c.name.new.err)
    (refl, refl) c.name.ensures.given c.name.ensures.clean c.name.ensures.names refl)

pub returns-in-Damaged-clause-one : goal.returns-in-Damaged-clause-one
returns-in-Damaged-clause-one g c =
    rw c.in-Damaged.is
    (named c.args.cutter.now c.args.first (Damaged c.in-Damaged.index) _ c.args.progress.now c.name-in-Damaged.new.progress (g.O.Sink.known c.args.out.now) (g.E.Sink.known c.args.err.now) (g.E.Sink.known c.name-in-Damaged.new.err)
    (refl, refl) c.name-in-Damaged.ensures.given c.name-in-Damaged.ensures.clean c.name-in-Damaged.ensures.names refl)

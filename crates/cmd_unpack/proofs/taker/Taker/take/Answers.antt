use Rattle.std.proofs.Common.{◌<◌, subst, arith}
use Rattle.std.proofs.lemmas.Result.{on_ok_weaker}
use Rattle.cmd_unpack.specs.declared.taker.Taker.{Taker}
use Rattle.mod_feed.specs.Items.{item_of}
use Rattle.cmd_unpack.specs.Taken.{AreBelow, counts_in, TakerTook, IsTakerReady}
use Rattle.cmd_unpack.proofs.Items.{on_ok}
use Rattle.cmd_unpack.proofs.TakerLemmas.{units_item, units_ready, messages_item}
use Rattle.cmd_unpack.proofs.taker.Taker.take.Goals as goal

pub returns-in-Units-clause-takes : goal.returns-in-Units-clause-takes
returns-in-Units-clause-takes g c = λ what items text took.
    let P : Taker → Type 0 = λ t. TakerTook what items text t in
    units_item what c.take.result items (item_of c.args.item.now) text c.in-Units.units c.take.new.self (g.O.Sink.known c.args.out.now) (g.O.Sink.known c.take.new.out) (subst P c.in-Units.is took) c.take.ensures.takes

pub returns-in-Units-clause-ready : goal.returns-in-Units-clause-ready
returns-in-Units-clause-ready g c =
    let ready = subst IsTakerReady c.in-Units.is c.requires.ready in
    units_ready c.take.result c.in-Units.units c.take.new.self _ _ _ (g.O.Sink.known c.args.out.now) (g.O.Sink.known c.take.new.out) (c.take.ensures.takes 0) ready.0 ready.1

pub returns-in-Messages-clause-takes : goal.returns-in-Messages-clause-takes
returns-in-Messages-clause-takes g c = λ what items text took.
    let P : Taker → Type 0 = λ t. TakerTook what items text t in
    messages_item what c.take-in-Messages.result items (item_of c.args.item.now) text c.in-Messages.messages c.take-in-Messages.new.self (g.O.Sink.known c.args.out.now) (g.O.Sink.known c.take-in-Messages.new.out) (subst P c.in-Messages.is took) c.take-in-Messages.ensures.takes

pub returns-in-Messages-clause-ready : goal.returns-in-Messages-clause-ready
returns-in-Messages-clause-ready g c =
    let ready = subst IsTakerReady c.in-Messages.is c.requires.ready in
    on_ok c.take-in-Messages.result (c.take-in-Messages.new.self.stream < 4) (omega (arith, c.take-in-Messages.ensures.stream, ready))

pub returns-in-Units-clause-grows : goal.returns-in-Units-clause-grows
returns-in-Units-clause-grows g c =
    on_ok_weaker c.take.result (λ grows n below. grows n (subst (λ (t : Taker). AreBelow (counts_in t) n) c.in-Units.is below)) c.take.ensures.grows

pub returns-in-Messages-clause-grows : goal.returns-in-Messages-clause-grows
returns-in-Messages-clause-grows g c =
    on_ok_weaker c.take-in-Messages.result (λ grows n below. grows n (subst (λ (t : Taker). AreBelow (counts_in t) n) c.in-Messages.is below)) c.take-in-Messages.ensures.grows

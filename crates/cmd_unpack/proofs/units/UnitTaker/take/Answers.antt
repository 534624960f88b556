use Rattle.std.proofs.Common.{◌+◌, [], ◌∷◌, None, refl, ap, arith}
use Rattle.cmd_unpack.specs.declared.units.UnitTaker.{UnitTaker}
use Rattle.cmd_unpack.specs.Streams.{entries_of, lacking}
use Rattle.cmd_unpack.proofs.Joining.{takes_as}
use Rattle.cmd_unpack.proofs.units.UnitTaker.take.Goals as goal

pub take_pieces-requires-clause-whole : goal.take_pieces-requires-clause-whole
take_pieces-requires-clause-whole g c = (c.in-Some.ensures 0).0

pub returns-in-Some-clause-takes : goal.returns-in-Some-clause-takes
returns-in-Some-clause-takes g c = λ id.
    let t : UnitTaker = c.args.self.now in
    let is = (c.in-Some.ensures id).1 in
    rw c.in-Frame.is
    (takes_as c.take_pieces.result t t c.take_pieces.new.self _ _ _ _ (g.O.Sink.known c.args.out.now) (g.O.Sink.known c.take_pieces.new.out)
    c.take_pieces.ensures.takes refl refl refl refl refl (let lacks = ap lacking is in omega (arith, lacks)) (omega arith) (ap entries_of is))

pub returns-in-None-clause-takes : goal.returns-in-None-clause-takes
returns-in-None-clause-takes g c = λ id.
    let t : UnitTaker = c.args.self.now in
    let s : UnitTaker = record t { counts = record t.counts { bad = t.counts.bad + 1 } } in
    let is = c.in-None.ensures id in
    rw c.in-Frame.is
    (takes_as c.gap.result t s c.gap.new.self (None ∷ []) _ _ _ (g.O.Sink.known c.args.out.now) (g.O.Sink.known c.gap.new.out)
    c.gap.ensures.takes refl refl refl refl refl (let lacks = ap lacking is in omega (arith, lacks)) (omega arith) (ap entries_of is))

pub returns-in-Missing-clause-takes : goal.returns-in-Missing-clause-takes
returns-in-Missing-clause-takes g c = λ id.
    let t : UnitTaker = c.args.self.now in
    let s : UnitTaker = record t { counts = record t.counts { missing = t.counts.missing + 1 } } in
    rw c.in-Missing.is
    (takes_as c.gap-in-Missing.result t s c.gap-in-Missing.new.self (None ∷ []) _ _ _ (g.O.Sink.known c.args.out.now) (g.O.Sink.known c.gap-in-Missing.new.out)
    c.gap-in-Missing.ensures.takes refl refl refl refl refl (omega arith) (omega arith) refl)

pub returns-in-Bad-clause-takes : goal.returns-in-Bad-clause-takes
returns-in-Bad-clause-takes g c = λ id.
    let t : UnitTaker = c.args.self.now in
    let s : UnitTaker = record t { counts = record t.counts { bad = t.counts.bad + 1 } } in
    rw c.in-Bad.is
    (takes_as c.gap-in-Bad.result t s c.gap-in-Bad.new.self (None ∷ []) _ _ _ (g.O.Sink.known c.args.out.now) (g.O.Sink.known c.gap-in-Bad.new.out)
    c.gap-in-Bad.ensures.takes refl refl refl refl refl (omega arith) (omega arith) refl)

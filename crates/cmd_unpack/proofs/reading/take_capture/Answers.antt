use Rattle.std.proofs.Common.{Err, ap, ◌∙◌}
use Rattle.std.proofs.lemmas.Result.{err_from_is_err_and}
use Rattle.cmd_unpack.proofs.Endings.{whole_written, whole_broken}
use Rattle.cmd_unpack.proofs.reading.take_capture.Goals as goal

pub returns-in_err-end-clause-ends : goal.returns-in_err-end-clause-ends
returns-in_err-end-clause-ends g c = λ what new.
    let before = g.I.Source.known c.args.input.now in
    let after = g.I.Source.known c.take_items.new.input in
    let a = g.O.Sink.known c.args.out.now in
    let p = err_from_is_err_and c.from_residual-in_err-end.result c.from_residual-in_err-end.ensures.1 in
    rw (p.1 ∙ ap Err p.2)
    (whole_broken c.args.range.now what c.take_items.new.taker c.end.new.self before after a (g.O.Sink.known c.take_items.new.out) (g.O.Sink.known c.end.new.out) c.end.result c.in_err-end.field-0.0 c.in_ok-take_items.field-0
    (c.in_ok-take_items.ensures.takes what new) c.end.ensures.ends c.in_err-end.was)

pub returns-clause-ends : goal.returns-clause-ends
returns-clause-ends g c = λ what new.
    let before = g.I.Source.known c.args.input.now in
    let after = g.I.Source.known c.take_items.new.input in
    let a = g.O.Sink.known c.args.out.now in
    whole_written c.args.range.now what c.take_items.new.taker c.end.new.self before after a (g.O.Sink.known c.take_items.new.out) (g.O.Sink.known c.end.new.out) c.end.result c.in_ok-end.field-0 c.in_ok-take_items.field-0 c.is_clean.result
    (c.in_ok-take_items.ensures.takes what new) c.end.ensures.ends c.in_ok-end.was c.is_clean.ensures

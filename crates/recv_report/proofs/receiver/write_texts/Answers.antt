use Rattle.std.proofs.Common.{◌∙◌, ap, subst}
use Rattle.std.proofs.lemmas.Result.{err_from_is_err_and}
use Rattle.drm_links.specs.Sink.{WritesWhole}
use Rattle.text_output.proofs.TextLemmas.{next_broken}
use Rattle.recv_report.specs.Receivers.{text_of}
use Rattle.recv_report.specs.declared.receiver.Receiver.{Receiver}
use Rattle.recv_report.proofs.receiver.write_texts.Goals as goal

pub returns-in_err-write_all : goal.returns-in_err-write_all
returns-in_err-write_all g c =
    let p = err_from_is_err_and c.from_residual.result c.from_residual.ensures.1 in
    let d : Receiver g.row.L.Denot = c.receiver-item.result in
    let b = g.O.Sink.known c.loop-receiver.out in
    let e = g.O.Sink.known c.write_all.new.out in
    rw p.1
    (next_broken (λ receiver. text_of receiver) c.args.receivers.now c.loop-receiver.receiver-index d c.loop-receiver-test.true (g.O.Sink.known c.args.out.now) b e c.write_all.result c.in_err-write_all.field-0.0 p.0
    c.loop-receiver.invariant.0 c.loop-receiver.invariant.1 c.in_err-write_all.was
    (subst (λ bytes. WritesWhole c.write_all.result b e bytes) (c.bytes.ensures ∙ ap (λ receiver. text_of receiver) c.receiver-item.is) c.write_all.ensures))

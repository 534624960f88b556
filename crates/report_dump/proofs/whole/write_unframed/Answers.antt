use Rattle.std.proofs.lemmas.Result.{err_from_is_err_and}
use Rattle.drm_links.proofs.WritingLemmas.{Writes-cut, Writes-then}
use Rattle.dcp_af.specs.Reading.{packet_of}
use Rattle.report_text.specs.FaultWords.{mdi_words}
use Rattle.report_dump.specs.Lines.{bad_line}
use Rattle.report_dump.specs.Text.{front_text}
use Rattle.report_dump.proofs.whole.write_unframed.Goals as goal

pub returns-in_err-write_front : goal.returns-in_err-write_front
returns-in_err-write_front g c = λ items are.
    let p = err_from_is_err_and c.from_residual.result c.from_residual.ensures.1 in
    rw p.1
    (Writes-cut (front_text c.args.at (packet_of c.args.af.now) items) (bad_line c.args.at (mdi_words c.args.fault)) (g.O.Sink.known c.args.out.now) (g.O.Sink.known c.write_front.new.out) c.write_front.result c.in_err-write_front.field-0.0 p.0 c.in_err-write_front.was (c.write_front.ensures items are))

pub returns : goal.returns
returns g c = λ items are.
    Writes-then (front_text c.args.at (packet_of c.args.af.now) items) (bad_line c.args.at (mdi_words c.args.fault)) (g.O.Sink.known c.args.out.now) (g.O.Sink.known c.write_front.new.out) (g.O.Sink.known c.write_bad.new.out) c.write_front.result c.write_bad.result _
    c.in_ok-write_front.was (c.write_front.ensures items are) (rw c.mdi_words.ensures at c.write_bad.ensures)

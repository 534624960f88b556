use Rattle.std.proofs.lemmas.Result.{err_from_is_err_and}
use Rattle.drm_links.proofs.WritingLemmas.{Writes-cut, Writes-then}
use Rattle.dcp_af.specs.Reading.{packet_of}
use Rattle.mdi_items.specs.Frame.{frame_of}
use Rattle.report_dump.specs.Text.{front_text, frame_text}
use Rattle.report_dump.proofs.whole.write_framed.Goals as goal

pub returns-in_err-write_front : goal.returns-in_err-write_front
returns-in_err-write_front g c = λ items block are is.
    let p = err_from_is_err_and c.from_residual.result c.from_residual.ensures.1 in
    rw p.1
    (Writes-cut (front_text c.args.at (packet_of c.args.af.now) items) (frame_text (frame_of c.args.view.now) block) (g.O.Sink.known c.args.out.now) (g.O.Sink.known c.write_front.new.out) c.write_front.result c.in_err-write_front.field-0.0 p.0 c.in_err-write_front.was (c.write_front.ensures items are))

pub returns : goal.returns
returns g c = λ items block are is.
    Writes-then (front_text c.args.at (packet_of c.args.af.now) items) (frame_text (frame_of c.args.view.now) block) (g.O.Sink.known c.args.out.now) (g.O.Sink.known c.write_front.new.out) (g.O.Sink.known c.write_frame.new.out) c.write_front.result c.write_frame.result _
    c.in_ok-write_front.was (c.write_front.ensures items are) (c.write_frame.ensures block is)

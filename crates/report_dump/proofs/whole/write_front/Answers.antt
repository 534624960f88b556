use Rattle.std.proofs.lemmas.Result.{err_from_is_err_and}
use Rattle.drm_links.proofs.WritingLemmas.{Writes-cut, Writes-then}
use Rattle.dcp_af.specs.Reading.{packet_of}
use Rattle.report_dump.specs.Lines.{af_line}
use Rattle.report_dump.specs.Text.{items_text}
use Rattle.report_dump.proofs.WritingLemmas.{as_front}
use Rattle.report_dump.proofs.whole.write_front.Goals as goal

pub returns-in_err-write_line : goal.returns-in_err-write_line
returns-in_err-write_line g c = λ items are.
    let p = err_from_is_err_and c.from_residual.result c.from_residual.ensures.1 in
    let af = packet_of c.args.af.now in
    let a = g.O.Sink.known c.args.out.now in
    let b = g.O.Sink.known c.write_line.new.out in
    rw p.1
    (as_front c.args.at af items a b _
    (Writes-cut (af_line c.args.at af) (items_text items) a b c.write_line.result c.in_err-write_line.field-0.0 p.0 c.in_err-write_line.was c.write_line.ensures))

pub returns : goal.returns
returns g c = λ items are.
    let af = packet_of c.args.af.now in
    let a = g.O.Sink.known c.args.out.now in
    let b = g.O.Sink.known c.write_line.new.out in
    let d = g.O.Sink.known c.write_tags.new.out in
    as_front c.args.at af items a d c.write_tags.result
    (Writes-then (af_line c.args.at af) (items_text items) a b d c.write_line.result c.write_tags.result _ c.in_ok-write_line.was c.write_line.ensures (c.write_tags.ensures items are))

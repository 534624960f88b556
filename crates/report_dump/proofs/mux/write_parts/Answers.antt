use Rattle.std.proofs.lemmas.Result.{err_from_is_err_and}
use Rattle.text_output.proofs.TextLemmas.{next_broken}
use Rattle.report_dump.specs.Lines.{part_text}
use Rattle.report_dump.proofs.mux.write_parts.Goals as goal

pub returns-in_err-write_part : goal.returns-in_err-write_part
returns-in_err-write_part g c =
    let p = err_from_is_err_and c.from_residual.result c.from_residual.ensures.1 in
    rw p.1
    (next_broken part_text c.args.parts.now c.loop-part.part-index _ c.loop-part-test.true (g.O.Sink.known c.args.out.now) (g.O.Sink.known c.loop-part.out) (g.O.Sink.known c.write_part.new.out) c.write_part.result c.in_err-write_part.field-0.0 p.0
    c.loop-part.invariant.0 c.loop-part.invariant.1 c.in_err-write_part.was c.write_part.ensures)

use Rattle.std.proofs.Common.{true}
use Rattle.std.proofs.lemmas.Result.{err_from_is_err_and}
use Rattle.drm_links.proofs.WritingLemmas.{Writes-cut}
use Rattle.cmd_unpack.specs.Lines.{cut_line, unit_line}
use Rattle.cmd_unpack.proofs.lines.write_answer.Goals as goal

pub returns-in_err-write_cut-in-CutUnit : goal.returns-in_err-write_cut-in-CutUnit
returns-in_err-write_cut-in-CutUnit g c =
    let p = err_from_is_err_and c.from_residual.result c.from_residual.ensures.1 in
    rw (p.1, c.in-CutUnit.is)
    (Writes-cut (cut_line true) (unit_line c.in-CutUnit.unit.now) (g.O.Sink.known c.args.out.now) (g.O.Sink.known c.write_cut-in-CutUnit.new.out) c.write_cut-in-CutUnit.result
    c.in_err-write_cut-in-CutUnit.field-0.0 p.0 c.in_err-write_cut-in-CutUnit.was c.write_cut-in-CutUnit.ensures)

use Rattle.std.proofs.lemmas.Result.{err_from_is_err_and}
use Rattle.std.specs.Prelude.{codes}
use Rattle.report_text.specs.FacLine.{fac_line}
use Rattle.drm_links.proofs.WritingLemmas.{Writes-cut, Writes-then}
use Rattle.report_dump.proofs.frame.write_fac_line.Goals as goal

pub returns-in_err-write_all : goal.returns-in_err-write_all
returns-in_err-write_all g c =
    let p = err_from_is_err_and c.from_residual.result c.from_residual.ensures.1 in
    rw p.1
    (Writes-cut (codes "fac ") (fac_line c.args.fac.now) (g.O.Sink.known c.args.out.now) (g.O.Sink.known c.write_all.new.out) c.write_all.result c.in_err-write_all.field-0.0 p.0 c.in_err-write_all.was c.write_all.ensures)

pub returns : goal.returns
returns g c =
    Writes-then (codes "fac ") (fac_line c.args.fac.now) (g.O.Sink.known c.args.out.now) (g.O.Sink.known c.write_all.new.out) (g.O.Sink.known c.write_fac.new.out) c.write_all.result c.write_fac.result _ c.in_ok-write_all.was c.write_all.ensures c.write_fac.ensures

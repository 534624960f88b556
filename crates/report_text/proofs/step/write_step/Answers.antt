use Rattle.std.proofs.lemmas.Result.{err_from_is_err_and}
use Rattle.mod_feed.specs.Items.{item_of}
use Rattle.report_text.specs.Report.{before_line, item_line}
use Rattle.drm_links.proofs.WritingLemmas.{Writes-cut, Writes-then}
use Rattle.report_text.proofs.step.write_step.Goals as goal

pub returns-in_err-write_before : goal.returns-in_err-write_before
returns-in_err-write_before g c =
    let p = err_from_is_err_and c.from_residual.result c.from_residual.ensures.1 in
    rw p.1
    (Writes-cut (before_line c.args.step.now.before) (item_line (item_of c.args.step.now.item)) (g.O.Sink.known c.args.out.now) (g.O.Sink.known c.write_before.new.out) c.write_before.result c.in_err-write_before.field-0.0 p.0 c.in_err-write_before.was c.write_before.ensures)

pub returns : goal.returns
returns g c =
    Writes-then (before_line c.args.step.now.before) (item_line (item_of c.args.step.now.item)) (g.O.Sink.known c.args.out.now) (g.O.Sink.known c.write_before.new.out) (g.O.Sink.known c.write_item.new.out) c.write_before.result c.write_item.result _ c.in_ok-write_before.was c.write_before.ensures c.write_item.ensures

use Rattle.std.proofs.Common.{◌++◌}
use Rattle.std.proofs.lemmas.Result.{err_from_is_err_and}
use Rattle.drm_links.proofs.WritingLemmas.{Writes-cut, Writes-then}
use Rattle.mdi_items.specs.Frame.{frame_of}
use Rattle.report_dump.specs.Lines.{mdi_line, fac_text, mux_line}
use Rattle.report_dump.specs.Text.{block_text}
use Rattle.report_dump.proofs.WritingLemmas.{as_frame}
use Rattle.report_dump.proofs.frame.write_frame.Goals as goal

pub returns-in_err-write_head : goal.returns-in_err-write_head
returns-in_err-write_head g c = λ block is.
    let p = err_from_is_err_and c.from_residual.result c.from_residual.ensures.1 in
    let f = frame_of c.args.view.now in
    let a = g.O.Sink.known c.args.out.now in
    let b = g.O.Sink.known c.write_head.new.out in
    rw p.1
    (as_frame f block a b _
    (Writes-cut (mdi_line f) (fac_text f.fac ++ (mux_line f.mux ++ (block_text block))) a b c.write_head.result c.in_err-write_head.field-0.0 p.0 c.in_err-write_head.was c.write_head.ensures))

pub returns-in_err-write_fac_line : goal.returns-in_err-write_fac_line
returns-in_err-write_fac_line g c = λ block is.
    let p = err_from_is_err_and c.from_residual-in_err-write_fac_line.result c.from_residual-in_err-write_fac_line.ensures.1 in
    let f = frame_of c.args.view.now in
    let a = g.O.Sink.known c.args.out.now in
    let b = g.O.Sink.known c.write_head.new.out in
    let d = g.O.Sink.known c.write_fac_line.new.out in
    rw p.1
    (as_frame f block a d _
    (Writes-then (mdi_line f) (fac_text f.fac ++ (mux_line f.mux ++ (block_text block))) a b d c.write_head.result _ _ c.in_ok-write_head.was c.write_head.ensures
    ((Writes-cut (fac_text f.fac) (mux_line f.mux ++ (block_text block)) b d c.write_fac_line.result c.in_err-write_fac_line.field-0.0 p.0 c.in_err-write_fac_line.was c.write_fac_line.ensures))))

pub returns-in_err-write_mux : goal.returns-in_err-write_mux
returns-in_err-write_mux g c = λ block is.
    let p = err_from_is_err_and c.from_residual-in_err-write_mux.result c.from_residual-in_err-write_mux.ensures.1 in
    let f = frame_of c.args.view.now in
    let a = g.O.Sink.known c.args.out.now in
    let b = g.O.Sink.known c.write_head.new.out in
    let d = g.O.Sink.known c.write_fac_line.new.out in
    let e = g.O.Sink.known c.write_mux.new.out in
    rw p.1
    (as_frame f block a e _
    (Writes-then (mdi_line f) (fac_text f.fac ++ (mux_line f.mux ++ (block_text block))) a b e c.write_head.result _ _ c.in_ok-write_head.was c.write_head.ensures
    ((Writes-then (fac_text f.fac) (mux_line f.mux ++ (block_text block)) b d e c.write_fac_line.result _ _ c.in_ok-write_fac_line.was c.write_fac_line.ensures
    ((Writes-cut (mux_line f.mux) (block_text block) d e c.write_mux.result c.in_err-write_mux.field-0.0 p.0 c.in_err-write_mux.was c.write_mux.ensures))))))

pub returns : goal.returns
returns g c = λ block is.
    let f = frame_of c.args.view.now in
    let a = g.O.Sink.known c.args.out.now in
    let b = g.O.Sink.known c.write_head.new.out in
    let d = g.O.Sink.known c.write_fac_line.new.out in
    let e = g.O.Sink.known c.write_mux.new.out in
    let h = g.O.Sink.known c.write_block_lines.new.out in
    as_frame f block a h c.write_block_lines.result
    (Writes-then (mdi_line f) (fac_text f.fac ++ (mux_line f.mux ++ (block_text block))) a b h c.write_head.result _ _ c.in_ok-write_head.was c.write_head.ensures
    ((Writes-then (fac_text f.fac) (mux_line f.mux ++ (block_text block)) b d h c.write_fac_line.result _ _ c.in_ok-write_fac_line.was c.write_fac_line.ensures
    ((Writes-then (mux_line f.mux) (block_text block) d e h c.write_mux.result c.write_block_lines.result _ c.in_ok-write_mux.was c.write_mux.ensures
    (c.write_block_lines.ensures block is))))))

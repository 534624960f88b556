use Rattle.std.proofs.Common.{◌++◌, codes, flat_map}
use Rattle.std.proofs.lemmas.Result.{err_from_is_err_and}
use Rattle.drm_links.proofs.WritingLemmas.{Writes-cut}
use Rattle.cmd_unpack.specs.Lines.{escaped}
use Rattle.cmd_unpack.proofs.lines.write_text.Goals as goal

pub returns-in_err-write_all : goal.returns-in_err-write_all
returns-in_err-write_all g c =
    let p = err_from_is_err_and c.from_residual.result c.from_residual.ensures.1 in
    rw p.1
    (Writes-cut (codes "text ") (flat_map escaped c.args.message.now ++ codes "\n") (g.O.Sink.known c.args.out.now) (g.O.Sink.known c.write_all.new.out) c.write_all.result
    c.in_err-write_all.field-0.0 p.0 c.in_err-write_all.was c.write_all.ensures)

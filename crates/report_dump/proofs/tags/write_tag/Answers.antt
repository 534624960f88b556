use Rattle.std.proofs.Common.{◌++◌}
use Rattle.std.proofs.lemmas.Result.{err_from_is_err_and}
use Rattle.drm_links.proofs.WritingLemmas.{Writes-cut, Writes-then}
use Rattle.std.specs.Prelude.{codes}
use Rattle.std.specs.List.{flat_map}
use Rattle.report_dump.specs.Lines.{name_byte, bits_text}
use Rattle.report_dump.proofs.tags.write_tag.Goals as goal

pub returns-in_err-write_all : goal.returns-in_err-write_all
returns-in_err-write_all g c =
    let p = err_from_is_err_and c.from_residual.result c.from_residual.ensures.1 in
    rw p.1
    (Writes-cut (codes "tag ") (flat_map name_byte c.args.name.now ++ bits_text c.args.bits) (g.O.Sink.known c.args.out.now) (g.O.Sink.known c.write_all.new.out) c.write_all.result c.in_err-write_all.field-0.0 p.0 c.in_err-write_all.was c.write_all.ensures)

pub returns-in_err-write_name : goal.returns-in_err-write_name
returns-in_err-write_name g c =
    let p = err_from_is_err_and c.from_residual-in_err-write_name.result c.from_residual-in_err-write_name.ensures.1 in
    let a = g.O.Sink.known c.args.out.now in
    let b = g.O.Sink.known c.write_all.new.out in
    let d = g.O.Sink.known c.write_name.new.out in
    rw p.1
    (Writes-then (codes "tag ") (flat_map name_byte c.args.name.now ++ bits_text c.args.bits) a b d c.write_all.result _ _ c.in_ok-write_all.was c.write_all.ensures
    (Writes-cut (flat_map name_byte c.args.name.now) (bits_text c.args.bits) b d c.write_name.result c.in_err-write_name.field-0.0 p.0 c.in_err-write_name.was c.write_name.ensures))

pub returns : goal.returns
returns g c =
    let a = g.O.Sink.known c.args.out.now in
    let b = g.O.Sink.known c.write_all.new.out in
    let d = g.O.Sink.known c.write_name.new.out in
    let e = g.O.Sink.known c.write_pieces.new.out in
    Writes-then (codes "tag ") (flat_map name_byte c.args.name.now ++ bits_text c.args.bits) a b e c.write_all.result _ _ c.in_ok-write_all.was c.write_all.ensures
    (Writes-then (flat_map name_byte c.args.name.now) (bits_text c.args.bits) b d e c.write_name.result c.write_pieces.result _ c.in_ok-write_name.was c.write_name.ensures (rw c.from.ensures at c.write_pieces.ensures))

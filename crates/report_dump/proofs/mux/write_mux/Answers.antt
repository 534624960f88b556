use Rattle.std.proofs.Common.{◌++◌}
use Rattle.std.proofs.lemmas.Result.{err_from_is_err_and}
use Rattle.drm_links.proofs.WritingLemmas.{Writes-cut, Writes-then}
use Rattle.std.specs.Prelude.{codes}
use Rattle.std.specs.List.{flat_map}
use Rattle.drm_bits.specs.Description.{described}
use Rattle.report_dump.specs.Lines.{protection_text, part_text}
use Rattle.report_dump.proofs.mux.write_mux.Goals as goal

pub returns-in_err-write_protections : goal.returns-in_err-write_protections
returns-in_err-write_protections g c =
    let p = err_from_is_err_and c.from_residual.result c.from_residual.ensures.1 in
    rw p.1
    (Writes-cut (protection_text c.args.mux.now) (flat_map part_text (described c.args.mux.now) ++ codes "\n") (g.O.Sink.known c.args.out.now) (g.O.Sink.known c.write_protections.new.out) c.write_protections.result c.in_err-write_protections.field-0.0 p.0 c.in_err-write_protections.was c.write_protections.ensures)

pub returns-in_err-write_parts : goal.returns-in_err-write_parts
returns-in_err-write_parts g c =
    let p = err_from_is_err_and c.from_residual-in_err-write_parts.result c.from_residual-in_err-write_parts.ensures.1 in
    let a = g.O.Sink.known c.args.out.now in
    let b = g.O.Sink.known c.write_protections.new.out in
    let d = g.O.Sink.known c.write_parts.new.out in
    rw p.1
    (Writes-then (protection_text c.args.mux.now) (flat_map part_text (described c.args.mux.now) ++ codes "\n") a b d c.write_protections.result _ _ c.in_ok-write_protections.was c.write_protections.ensures
    (Writes-cut (flat_map part_text (described c.args.mux.now)) (codes "\n") b d c.write_parts.result c.in_err-write_parts.field-0.0 p.0 c.in_err-write_parts.was (rw c.from.ensures at c.write_parts.ensures)))

pub returns : goal.returns
returns g c =
    let a = g.O.Sink.known c.args.out.now in
    let b = g.O.Sink.known c.write_protections.new.out in
    let d = g.O.Sink.known c.write_parts.new.out in
    let e = g.O.Sink.known c.write_all.new.out in
    Writes-then (protection_text c.args.mux.now) (flat_map part_text (described c.args.mux.now) ++ codes "\n") a b e c.write_protections.result _ _ c.in_ok-write_protections.was c.write_protections.ensures
    (Writes-then (flat_map part_text (described c.args.mux.now)) (codes "\n") b d e c.write_parts.result c.write_all.result _ c.in_ok-write_parts.was (rw c.from.ensures at c.write_parts.ensures) c.write_all.ensures)

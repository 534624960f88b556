use Rattle.std.proofs.Common.{subst}
use Rattle.std.proofs.lemmas.Result.{err_from_is_err_and}
use Rattle.drm_links.proofs.KnownLemmas.{done_counts}
use Rattle.drm_links.proofs.WritingLemmas.{Writes-done}
use Rattle.cmd_pack.specs.Units.{BeginsWith}
use Rattle.cmd_pack.proofs.Files.{none_begins, wrong_begin}
use Rattle.cmd_pack.proofs.Written.{packs_one, packs_broken, packs_all}
use Rattle.cmd_pack.proofs.packing.write_packets.Goals as goal

pub returns-in_err-write_unit-in-Unit : goal.returns-in_err-write_unit-in-Unit
returns-in_err-write_unit-in-Unit g c =
    let p = err_from_is_err_and c.from_residual.result c.from_residual.ensures.1 in
    let (text, one, writes) = c.write_unit.ensures.writes in
    rw p.1
    (packs_broken c.args.id c.args.length c.args.bytes.now c.units.rest.now c.in-Unit.unit.now c.in-Unit.behind.now c.units.packer (g.O.Sink.known c.args.out.now) (g.O.Sink.known c.units.out) (g.O.Sink.known c.write_unit.new.out)
    text c.write_unit.result c.in_err-write_unit-in-Unit.field-0.0 p.0 c.requires.id c.units.invariant c.in-Unit.ensures one c.in_err-write_unit-in-Unit.was writes)

pub units-preserved : goal.units-preserved
units-preserved g c =
    let (text, one, writes) = c.write_unit.ensures.writes in
    packs_one c.args.id c.args.length c.args.bytes.now c.units.rest.now c.in-Unit.unit.now c.in-Unit.behind.now c.units.packer c.write_unit.new.packer (g.O.Sink.known c.args.out.now) (g.O.Sink.known c.units.out) (g.O.Sink.known c.write_unit.new.out)
    text c.units.invariant c.in-Unit.ensures one (Writes-done c.in_ok-write_unit-in-Unit.was writes) (done_counts c.in_ok-write_unit-in-Unit.was writes.cause) c.in_ok-write_unit-in-Unit.ensures.after

pub returns-in-End : goal.returns-in-End
returns-in-End g c =
    packs_all c.args.id c.args.length c.args.bytes.now c.units.rest.now c.units.packer (g.O.Sink.known c.args.out.now) (g.O.Sink.known c.units.out) c.units.invariant
    (λ unit more begins. none_begins unit more (subst (BeginsWith unit more) c.in-End.ensures begins))

pub returns-in-Wrong : goal.returns-in-Wrong
returns-in-Wrong g c =
    packs_all c.args.id c.args.length c.args.bytes.now c.units.rest.now c.units.packer (g.O.Sink.known c.args.out.now) (g.O.Sink.known c.units.out) c.units.invariant
    (λ unit more begins. wrong_begin _ unit more c.units.rest.now c.in-Wrong.ensures begins)

use Rattle.std.proofs.Common.{inr, refl, ◌∙◌, sym}
use Rattle.drm_links.proofs.WritingLemmas.{Writes-done, Writes-front}
use Rattle.dcp_collect.specs.Runs.{Packet}
use Rattle.cmd_convert.proofs.ItemLemmas.{named, written, failing}
use Rattle.cmd_convert.proofs.item.convert_packet.Goals as goal

pub returns-in-Some-clause-one : goal.returns-in-Some-clause-one
returns-in-Some-clause-one g c =
    named c.args.cutter.now c.args.first (Packet c.args.index c.args.bytes.now) _ c.args.progress.now c.name.new.progress (g.O.Sink.known c.args.out.now) (g.E.Sink.known c.args.err.now) (g.E.Sink.known c.name.new.err)
    (inr (c.in-Some.fault, c.in-Some.ensures, refl, refl)) c.name.ensures.given c.name.ensures.clean c.name.ensures.names refl

pub returns-in-Ok-clause-one : goal.returns-in-Ok-clause-one
returns-in-Ok-clause-one g c =
    let w = c.write.ensures.written in
    written c.args.cutter.now c.args.first c.args.index c.sequence.result c.args.bytes.now w.0 c.args.progress.now _ (g.O.Sink.known c.args.out.now) (g.O.Sink.known c.write.new.out) (g.E.Sink.known c.args.err.now)
    c.in_default.ensures (sym c.is_too_long.ensures ∙ c.if-is_too_long.false) c.sequence.ensures w.1 (Writes-done c.in-Ok.is w.2) refl refl refl

pub returns-in-Err-clause-one : goal.returns-in-Err-clause-one
returns-in-Err-clause-one g c =
    let w = c.write.ensures.written in (
      failing c.args.cutter.now c.args.first c.args.index c.sequence.result c.args.bytes.now w.0 (g.O.Sink.known c.args.out.now) (g.O.Sink.known c.write.new.out)
          c.in_default.ensures (sym c.is_too_long.ensures ∙ c.if-is_too_long.false) c.sequence.ensures w.1 (Writes-front c.in-Err.is w.2),
      refl,
      refl,
    )

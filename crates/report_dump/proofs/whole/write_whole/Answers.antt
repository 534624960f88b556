use Rattle.std.proofs.Common.{true, false, refl, sym, subst, arith}
use Rattle.dcp_af.specs.Reading.{packet_of}
use Rattle.mdi_items.specs.Frame.{frame_of}
use Rattle.report_dump.specs.PacketContent.{FrameOf, NoFrame, Whole, IsBlockOf}
use Rattle.report_dump.proofs.ItemLemmas.{items_there, payload_bytes}
use Rattle.report_dump.proofs.SpanLemmas.{block_there}
use Rattle.report_dump.proofs.WritingLemmas.{shows}
use Rattle.report_dump.proofs.whole.write_whole.Goals as goal

pub returns-in-Ok : goal.returns-in-Ok
returns-in-Ok g c =
    let p = packet_of c.args.af.now in
    let items = items_there p.payload (payload_bytes p c.args.bytes.now (λ i. omega (arith, c.type_inv.bytes i)) c.requires) in
    let frame = frame_of c.in-Ok.view in
    let block = block_there frame p.payload c.in-Ok.ensures.read in
    shows (Whole p items.0 (FrameOf frame block.0)) c.args.at c.args.bytes.now (g.O.Sink.known c.args.out.now) (g.O.Sink.known c.write_framed.new.out) c.write_framed.result false c.answer.result
    (c.requires, items.1, (c.in-Ok.ensures.read, block.1)) refl
    (c.write_framed.ensures items.0 block.0 items.1 (subst (λ l. IsBlockOf l frame.sdc block.0) (sym c.in-Ok.ensures.payload) block.1)) c.answer.ensures

pub returns-in-Err : goal.returns-in-Err
returns-in-Err g c =
    let p = packet_of c.args.af.now in
    let items = items_there p.payload (payload_bytes p c.args.bytes.now (λ i. omega (arith, c.type_inv.bytes i)) c.requires) in
    shows (Whole p items.0 (NoFrame c.in-Err.fault)) c.args.at c.args.bytes.now (g.O.Sink.known c.args.out.now) (g.O.Sink.known c.write_unframed.new.out) c.write_unframed.result true c.answer-in-Err.result
    (c.requires, items.1, c.in-Err.ensures.fault) refl (c.write_unframed.ensures items.0 items.1) c.answer-in-Err.ensures

use Rattle.std.proofs.Common.{true, false, refl, ◌∙◌}
use Rattle.dcp_pft.specs.Reading.{pft_of}
use Rattle.report_dump.specs.PacketContent.{Fragment, NoFragment}
use Rattle.report_dump.proofs.WritingLemmas.{shows}
use Rattle.report_dump.proofs.packet.write_pft.Goals as goal

pub returns-in-Ok : goal.returns-in-Ok
returns-in-Ok g c =
    shows (Fragment (pft_of c.in-Ok.fragment)) c.args.at c.args.bytes.now (g.O.Sink.known c.args.out.now) (g.O.Sink.known c.write_fragment.new.out) c.write_fragment.result false c.answer.result
    c.in-Ok.ensures.found refl c.write_fragment.ensures c.answer.ensures

pub returns-in-Err : goal.returns-in-Err
returns-in-Err g c =
    shows (NoFragment c.in-Err.fault) c.args.at c.args.bytes.now (g.O.Sink.known c.args.out.now) (g.O.Sink.known c.write_bad.new.out) c.write_bad.result true c.answer-in-Err.result
    (c.requires, c.in-Err.ensures.fault) refl (rw (c.plain.ensures ∙ c.pft_words.ensures) at c.write_bad.ensures) c.answer-in-Err.ensures

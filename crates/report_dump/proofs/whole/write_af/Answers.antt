use Rattle.std.proofs.Common.{true, refl, ◌∙◌}
use Rattle.report_dump.specs.PacketContent.{NoPacket}
use Rattle.report_dump.proofs.WritingLemmas.{shows}
use Rattle.report_dump.proofs.whole.write_af.Goals as goal

pub returns-in-Err : goal.returns-in-Err
returns-in-Err g c =
    shows (NoPacket c.in-Err.fault) c.args.at c.args.bytes.now (g.O.Sink.known c.args.out.now) (g.O.Sink.known c.write_bad.new.out) c.write_bad.result true c.answer.result
    (c.requires, c.in-Err.ensures.fault) refl (rw (c.plain.ensures ∙ c.af_words.ensures) at c.write_bad.ensures) c.answer.ensures

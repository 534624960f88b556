use Rattle.std.proofs.Common.{ap, ◌∙◌}
use Rattle.recv_reading.proofs.Sources.{read_none}
use Rattle.recv_report.specs.declared.reading.ReceiveFault.TheVariants as fault
use Rattle.recv_report.proofs.CaptureReading.{as_reported, as_broken, as_stopped}
use Rattle.recv_report.proofs.capture.receive_capture.Goals as goal

pub write_report-requires-clause-nothing_heard : goal.write_report-requires-clause-nothing_heard
write_report-requires-clause-nothing_heard g c = read_none (g.I.Source.known c.args.input.now) c.in_ok-packets.packets c.in_ok-packets.ensures

pub returns-in-Ok-clause-ended : goal.returns-in-Ok-clause-ended
returns-in-Ok-clause-ended g c =
    as_reported c.args.rules.now c.in_ok-collector.collector c.bounds.result c.in_ok-collector.ensures c.bounds.ensures c.write_report.new.reader (g.I.Source.known c.args.input.now) (g.I.Source.known c.write_report.new.from)
    (g.O.Sink.known c.args.out.now) (g.O.Sink.known c.write_report.new.out) c.in-Ok.totals c.in-Ok.ensures.finished

pub returns-in-Err-Source-Capture-clause-ended : goal.returns-in-Err-Source-Capture-clause-ended
returns-in-Err-Source-Capture-clause-ended g c =
    as_broken c.args.rules.now c.in_ok-collector.collector c.bounds.result c.in_ok-collector.ensures c.bounds.ensures c.write_report.new.reader (g.I.Source.known c.args.input.now) (g.I.Source.known c.write_report.new.from)
    (g.O.Sink.known c.args.out.now) (g.O.Sink.known c.write_report.new.out) c.in-Err-Source-Capture.field-0 c.in-Err-Source-Capture.stop
    (c.in-Err-Source-Capture.field-0-is ∙ ap fault.Source c.in-Err-Source-Capture.field-0-0-is) c.in-Err-Source-Capture.ensures.stopped

pub returns-in-Err-Write-clause-ended : goal.returns-in-Err-Write-clause-ended
returns-in-Err-Write-clause-ended g c =
    as_stopped c.args.rules.now c.in_ok-collector.collector c.bounds.result c.in_ok-collector.ensures c.bounds.ensures c.write_report.new.reader (g.I.Source.known c.args.input.now) (g.I.Source.known c.write_report.new.from)
    (g.O.Sink.known c.args.out.now) (g.O.Sink.known c.write_report.new.out) c.in-Err-Write.field-0 c.in-Err-Write.field-0-is c.in-Err-Write.ensures.stopped

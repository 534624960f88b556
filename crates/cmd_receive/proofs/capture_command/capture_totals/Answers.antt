use Rattle.std.proofs.Common.{ap, Result}
use Rattle.drm_links.proofs.KnownLemmas.{counts_as}
use Rattle.report_text.specs.declared.totals.Totals.{Totals}
use Rattle.recv_report.specs.declared.capture.CaptureReportError.{CaptureReportError}
use Rattle.cmd_receive.specs.Stopping.{captured_totals, clean_ending}
use Rattle.cmd_receive.proofs.CaptureLemmas.{written, ended_as, ended_early, ended_memory, ended_read, ended_write, totals_are}
use Rattle.cmd_receive.proofs.CaptureStatus.{capture_run}
use Rattle.cmd_receive.proofs.capture_command.capture_totals.Goals as goal

pub returns : goal.returns
returns g c =
    let outcome = c.receive_capture.result in
    let run = c.receive_capture.ensures in
    let as_ended : Result Totals CaptureReportError → _ = λ r. clean_ending (captured_totals r) in
    rw c.captured_totals.ensures
    (record {
      run = record {
        receives = capture_run c.in_time_is_unbroken.ensures c.args.rules.now (clean_ending (captured_totals outcome)) g.I.Source.known c.args.input.now c.receive_capture.new.input g.O.Sink.known c.args.out.now c.receive_capture.new.out
            (ended_early outcome)
            (ended_as c.args.rules.now (g.I.Source.known c.args.input.now) (g.I.Source.known c.receive_capture.new.input) (g.O.Sink.known c.args.out.now) (g.O.Sink.known c.receive_capture.new.out) outcome run.ended)
            (written c.args.rules.now c.requires c.reports_follow.ensures.headlines c.reports_follow.ensures.completes c.read_some_way.ensures (g.I.Source.known c.args.input.now) (g.I.Source.known c.receive_capture.new.input)
            g.O.Sink.known c.args.out.now c.receive_capture.new.out outcome run.ended)
            (λ is. run.memory (ended_memory outcome is))
            (counts_as (ended_read outcome) (λ is. ap as_ended is) run.read)
            (counts_as (ended_write outcome) (λ is. ap as_ended is) run.write);
        totals = totals_are c.args.rules.now (g.I.Source.known c.args.input.now) (g.I.Source.known c.receive_capture.new.input) (g.O.Sink.known c.args.out.now) (g.O.Sink.known c.receive_capture.new.out) outcome run.ended;
      };
    })

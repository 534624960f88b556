use Rattle.std.proofs.Common.{ℕ, subst}
use Rattle.drm_links.specs.Hearing.{LinkHeard}
use Rattle.recv_reading.specs.Options.{options_of}
use Rattle.recv_report.specs.Received.{ReportCounted}
use Rattle.recv_report.proofs.one_receiver.report_link.Goals as goal

pub returns-in-Ok-clause-ended : goal.returns-in-Ok-clause-ended
returns-in-Ok-clause-ended g c =
    subst (λ (n : ℕ). ReportCounted (options_of c.args.collector.now (record { frames = c.args.options.now.frames; idle = c.args.options.now.idle; limit = n })) c.args.options.now.feed
    (LinkHeard (g.L.Link.known c.args.link.now) (g.L.Link.known c.write_report.new.from)) (g.O.Sink.known c.args.out.now) (g.O.Sink.known c.write_report.new.out) c.in-Ok.totals) c.from.ensures c.in-Ok.ensures.finished

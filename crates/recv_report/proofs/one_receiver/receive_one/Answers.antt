use Rattle.recv_report.specs.Received.{rules_of}
use Rattle.recv_report.proofs.Composing.{receives_headline, receives_complete}
use Rattle.recv_report.proofs.one_receiver.receive_one.Goals as goal

pub returns-in-Ok-clause-ended : goal.returns-in-Ok-clause-ended
returns-in-Ok-clause-ended g c = rw c.is_clean.ensures c.in-Ok.ensures.ended.written

pub returns-in-Ok-clause-headline : goal.returns-in-Ok-clause-headline
returns-in-Ok-clause-headline g c =
    rw c.is_clean.ensures
    (receives_headline c.reports_follow.ensures.headlines (rules_of c.args.collector.now c.args.options.now) c.args.options.now.feed (g.L.Link.known c.args.link.now) (g.L.Link.known c.report_link.new.link)
    (g.O.Sink.known c.args.out.now) (g.O.Sink.known c.report_link.new.out) _ c.requires.window.0 c.in-Ok.ensures.ended.written)

pub returns-in-Ok-clause-complete : goal.returns-in-Ok-clause-complete
returns-in-Ok-clause-complete g c =
    rw c.is_clean.ensures
    (receives_complete c.reports_follow.ensures.completes (rules_of c.args.collector.now c.args.options.now) c.args.options.now.feed (g.L.Link.known c.args.link.now) (g.L.Link.known c.report_link.new.link)
    (g.O.Sink.known c.args.out.now) (g.O.Sink.known c.report_link.new.out) _ c.requires.window.0 c.in-Ok.ensures.ended.written)

use Rattle.report_journal.proofs.Printing.{prints_all}
use Rattle.report_journal.proofs.lines.give_ready.Goals as goal

pub returns-clause-prints_all : goal.returns-clause-prints_all
returns-clause-prints_all g c =
    let printed = c.in_ok-print_ready.ensures in
    let (more, gives) = c.skip_ready.ensures in
    prints_all c.args.frame_limit c.args.collector.now c.print_ready.new.collector c.args.feed.now c.print_ready.new.feed c.args.counts.now c.print_ready.new.counts
    (g.O.Sink.known c.args.out.now) (g.O.Sink.known c.print_ready.new.out) printed.prints printed.fed c.skip_ready.new.collector more printed.over gives

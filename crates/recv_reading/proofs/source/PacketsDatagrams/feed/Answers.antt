use Rattle.std.proofs.Common.{◌∷◌, [], Ok, Err, ap, ◌∙◌}
use Rattle.std.proofs.lemmas.Result.{err_from_is_err_and}
use Rattle.drm_links.specs.Link.{End}
use Rattle.recv_reading.proofs.Reaching.{broken, drained, goes_on_yet}
use Rattle.recv_reading.proofs.Sources.{packets_of, not_stopped, one_packet, all_packets, until_here}
use Rattle.recv_reading.proofs.source.PacketsDatagrams.feed.Goals as goal

pub returns-in_err-find-clause-reads : goal.returns-in_err-find-clause-reads
returns-in_err-find-clause-reads g c = λ start options answers taken during more so_far z.
    let waits = c.requires.waits in
    let p = packets_of c.args.self.now (g.I.Source.known start) (g.I.Source.known c.args.from.now) answers so_far (goes_on_yet options answers taken during more c.args.reading.now c.args.collector.now z waits) in
    let is = err_from_is_err_and c.from_residual.result c.from_residual.ensures.1 in
    rw (is.1 ∙ ap Err is.2) (
      until_here c.args.self.now (g.I.Source.known start) (g.I.Source.known c.args.from.now) answers p c.in_err-find.field-0.0 (g.I.Source.known c.find.new.input) (c.in_err-find.ensures.stops p.packets (g.I.Source.known start) p.read),
      broken options answers taken during more c.args.reading.now c.args.collector.now z waits c.requires.below_limit,
      (drained options answers taken during more c.args.reading.now c.args.collector.now z waits).gave,
    )

pub returns-then-branch-clause-reads : goal.returns-then-branch-clause-reads
returns-then-branch-clause-reads g c = λ start options answers taken during more so_far z.
    let p = packets_of c.args.self.now (g.I.Source.known start) (g.I.Source.known c.args.from.now) answers so_far (goes_on_yet options answers taken during more c.args.reading.now c.args.collector.now z c.requires.waits) in
    let read = c.find.ensures.more p.packets (g.I.Source.known start) p.read (not_stopped c.find.result c.in_ok-find.field-0 c.in_ok-find.was) in (
      c.next-packet.result.bytes.now,
      one_packet c.args.self.now (g.I.Source.known start) (g.I.Source.known c.args.from.now) answers p c.next-packet.follows.lender-at-none (g.I.Source.known c.find.new.input) c.next-packet.result.bytes.now
          (c.next-packet.follows.holds-at-none.reads p.packets (g.I.Source.known start) (g.I.Source.known c.find.new.input) read),
      c.take.ensures.reached options answers taken during more z,
    )

pub returns-else-branch-clause-reads : goal.returns-else-branch-clause-reads
returns-else-branch-clause-reads g c = λ start options answers taken during more so_far z.
    let p = packets_of c.args.self.now (g.I.Source.known start) (g.I.Source.known c.args.from.now) answers so_far (goes_on_yet options answers taken during more c.args.reading.now c.args.collector.now z c.requires.waits) in (
      End ∷ [],
      all_packets c.args.self.now (g.I.Source.known start) (g.I.Source.known c.args.from.now) answers p c.find.new.self (g.I.Source.known c.find.new.input) (c.find.ensures.ended p.packets (g.I.Source.known start) p.read (c.in_ok-find.was ∙ ap Ok c.if-branch.false)),
      c.end.ensures.reached options answers taken during more z,
    )

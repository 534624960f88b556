use Rattle.std.proofs.Common.{None, ◌∙◌, sym}
use Rattle.std.proofs.lemmas.Result.{err_from_is_err_and}
use Rattle.recv_reading.proofs.Common.{Known, Output}
use Rattle.drm_links.proofs.WritingLemmas.{Writes-done}
use Rattle.report_journal.proofs.Printing.{none_printed, one_printed, one_fed, full_fits, counts_first}
use Rattle.report_journal.proofs.lines.print_ready.Goals as goal

pub items-init : goal.items-init
items-init g c = (none_printed c.args.collector.now c.args.feed.now c.args.counts.now (g.O.Sink.known c.args.out.now), c.requires.fed)

pub is_full-requires : goal.is_full-requires
is_full-requires g c = full_fits c.args.frame_limit c.items.collector.next c.items.feed c.items.counts c.requires.within_limit c.items.invariant.1

pub items-preserved : goal.items-preserved
items-preserved g c =
    let i = c.items.invariant in
    let n = c.print_next.ensures.next in
    let now = sym c.ready.ensures.ready ∙ c.if-not-ready.false in (
      one_printed c.args.collector.now c.items.collector c.print_next.new.collector c.args.feed.now c.items.feed c.print_next.new.feed c.args.counts.now c.items.counts c.print_next.new.counts
          (g.O.Sink.known c.args.out.now) (g.O.Sink.known c.items.out) (g.O.Sink.known c.print_next.new.out) (g.O.Sink.known c.print_next.new.out) i.0 now c.print_next.ensures.collector n (Writes-done c.in_ok-print_next.was n.writes),
      one_fed c.args.frame_limit c.items.collector c.print_next.new.collector c.items.feed c.print_next.new.feed c.items.counts c.print_next.new.counts n.step.item i.1 c.print_next.ensures.collector (sym c.is_full.ensures ∙ c.if-is_full.false) n.calls n.counts,
    )

pub returns-in_err-print_next-clause-first : goal.returns-in_err-print_next-clause-first
returns-in_err-print_next-clause-first g c =
    let i = c.items.invariant in
    let n = c.print_next.ensures.next in
    let now = sym c.ready.ensures.ready ∙ c.if-not-ready.false in
    let unknown : Known Output = record { faults = 0; contents = None } in
    let p = err_from_is_err_and c.from_residual.result c.from_residual.ensures.1 in
    rw p.1
    (counts_first c.args.frame_limit c.args.collector.now c.print_next.new.collector c.args.feed.now c.print_next.new.feed c.args.counts.now c.print_next.new.counts (g.O.Sink.known c.args.out.now) unknown
    (one_printed c.args.collector.now c.items.collector c.print_next.new.collector c.args.feed.now c.items.feed c.print_next.new.feed c.args.counts.now c.items.counts c.print_next.new.counts
    (g.O.Sink.known c.args.out.now) (g.O.Sink.known c.items.out) (g.O.Sink.known c.print_next.new.out) unknown i.0 now c.print_next.ensures.collector n tt)
    (one_fed c.args.frame_limit c.items.collector c.print_next.new.collector c.items.feed c.print_next.new.feed c.items.counts c.print_next.new.counts n.step.item i.1 c.print_next.ensures.collector (sym c.is_full.ensures ∙ c.if-is_full.false) n.calls n.counts))

use Rattle.std.proofs.Common.{sym, subst}
use Rattle.recv_reading.proofs.Common.{ReadingReached, ReadingWaits}
use Rattle.recv_reading.proofs.Reaching.{broken, drained}
use Rattle.drm_gate.proofs.reading.hear.Goals as goal

pub returns-in-Failed-clause-hears : goal.returns-in-Failed-clause-hears
returns-in-Failed-clause-hears g c = λ rules answers taken during more z.
    let goes = c.stops_at_limit.ensures.goes_on c.if-stops_at_limit.false in
    let r = c.stops_at_limit.new.self in
    let d = c.stops_at_limit.new.collector in
    let here : ReadingReached rules answers taken during more r d =
    subst (λ s. ReadingReached rules answers taken during more s d) (sym goes.0) (subst (λ s. ReadingReached rules answers taken during more c.args.reading.now s) (sym goes.1) z) in
    let waits : ReadingWaits r d = subst (λ s. ReadingWaits s d) (sym goes.0) (subst (λ s. ReadingWaits c.args.reading.now s) (sym goes.1) c.requires.waits) in
    (c.in-Failed.ensures.heard, broken rules answers taken during more c.args.reading.now c.args.collector.now z c.requires.waits goes.2, (drained rules answers taken during more r d here waits).gave)

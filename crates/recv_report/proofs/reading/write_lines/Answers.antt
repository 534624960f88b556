use Rattle.std.proofs.Common.{◌∙◌, ap, Err}
use Rattle.std.proofs.lemmas.Result.{err_from_is_err_and}
use Rattle.drm_links.proofs.WritingLemmas.{Writes-done, Writes-front}
use Rattle.recv_reading.specs.Options.{options_of}
use Rattle.recv_report.proofs.Reporting.{read_reportable, first_front, stops_report, refused_broken, end_broken, reported}
use Rattle.recv_report.proofs.reading.write_lines.Goals as goal

pub returns-in_err-write_feed-clause-stopped : goal.returns-in_err-write_feed-clause-stopped
returns-in_err-write_feed-clause-stopped g c =
    let p = err_from_is_err_and c.from_residual.result c.from_residual.ensures.1 in
    rw (p.1 ∙ ap Err p.2)
    (first_front (options_of c.args.collector.now c.args.bounds) c.requires.options.window c.args.number (g.R.Datagrams.so_far c.args.from.now c.args.reader.now c.args.from.now)
    (g.O.Sink.known c.args.out.now) (g.O.Sink.known c.write_feed.new.out) c.requires.nothing_heard (Writes-front c.in_err-write_feed.was c.write_feed.ensures))

pub returns-in_err-word-clause-stopped : goal.returns-in_err-word-clause-stopped
returns-in_err-word-clause-stopped g c =
    let p = err_from_is_err_and c.from_residual-in_err-word.result c.from_residual-in_err-word.ensures.1 in
    rw (p.1 ∙ ap Err p.2)
    (stops_report (options_of c.args.collector.now c.args.bounds) c.requires.options.window c.args.number (g.R.Datagrams.so_far c.args.from.now c.read_all.new.reader c.read_all.new.from)
    (λ fault. g.R.Datagrams.until c.args.from.now fault c.read_all.new.from) (g.O.Sink.known c.args.out.now) (g.O.Sink.known c.write_feed.new.out) (g.O.Sink.known c.read_all.new.out)
    c.in_err-word.field-0.0 (Writes-done c.in_ok-write_feed.was c.write_feed.ensures) c.in_err-word.ensures.stopped)

pub write_refused-requires : goal.write_refused-requires
write_refused-requires g c = read_reportable _ _ _ _ _ _ c.in_ok-word.ensures.finished

pub returns-in_err-write_refused-clause-stopped : goal.returns-in_err-write_refused-clause-stopped
returns-in_err-write_refused-clause-stopped g c =
    let p = err_from_is_err_and c.from_residual-in_err-write_refused.result c.from_residual-in_err-write_refused.ensures.1 in
    rw (p.1 ∙ ap Err p.2)
    (refused_broken _ c.requires.options.window c.args.number _ _ _ _ _ _ (Writes-done c.in_ok-write_feed.was c.write_feed.ensures) c.in_ok-word.ensures.finished
    (g.O.Sink.known c.write_refused.new.out) (Writes-front c.in_err-write_refused.was c.write_refused.ensures))

pub returns-in_err-write_end-clause-stopped : goal.returns-in_err-write_end-clause-stopped
returns-in_err-write_end-clause-stopped g c =
    let p = err_from_is_err_and c.from_residual-in_err-write_end.result c.from_residual-in_err-write_end.ensures.1 in
    rw (p.1 ∙ ap Err p.2)
    (end_broken _ c.requires.options.window c.args.number _ _ _ _ _ _ (Writes-done c.in_ok-write_feed.was c.write_feed.ensures) c.in_ok-word.ensures.finished
    (g.O.Sink.known c.write_refused.new.out) (g.O.Sink.known c.write_end.new.out) (Writes-done c.in_ok-write_refused.was c.write_refused.ensures) (Writes-front c.in_err-write_end.was c.write_end.ensures))

pub returns-clause-finished : goal.returns-clause-finished
returns-clause-finished g c =
    rw c.totals.ensures
    (reported (options_of c.args.collector.now c.args.bounds) c.requires.options.window c.args.number (g.R.Datagrams.so_far c.args.from.now c.read_all.new.reader c.read_all.new.from)
    (g.O.Sink.known c.args.out.now) (g.O.Sink.known c.write_feed.new.out) (g.O.Sink.known c.read_all.new.out) (g.O.Sink.known c.write_refused.new.out) (g.O.Sink.known c.write_end.new.out)
    c.read_all.new.tally c.in_ok-word.word (Writes-done c.in_ok-write_feed.was c.write_feed.ensures) c.in_ok-word.ensures.finished
    (Writes-done c.in_ok-write_refused.was c.write_refused.ensures) (Writes-done c.in_ok-write_end.was c.write_end.ensures))

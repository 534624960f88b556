use Rattle.std.proofs.Common.{◌≡◌, ◌++◌, ◌∷◌, [], List, Err, refl, sym, ◌∙◌, ap, subst, true, false, arith, IsOk}
use Rattle.std.proofs.lemmas.Result.{err_from_is_err_and}
use Rattle.drm_links.proofs.KnownLemmas.{done_counts}
use Rattle.drm_links.proofs.WritingLemmas.{Writes-done, Writes-front}
use Rattle.recv_reading.proofs.Common.{Answer, CollectorState, after_item, options_of, ReadingReached}
use Rattle.text_output.proofs.GatheringLemmas.{put_done, put_failed}
use Rattle.recv_reading.specs.declared.source.SourceFault.{SourceFault}
use Rattle.recv_reading.proofs.Finishing.{gives_so}
use Rattle.recv_reading.proofs.Looping.{loop_none, rests_over, rests_waiting, loop_rests}
use Rattle.recv_report.specs.Progress.{HasPrinted}
use Rattle.recv_report.proofs.Coming.{none_printed, progress_one, stops_at, progress_out, stops_out, progress_on, breaks_off, wrote_all, many_answered}
use Rattle.recv_report.proofs.reading.read_all.Goals as goal

pub answers-init : goal.answers-init
answers-init g c =
    let out = g.O.Sink.known c.args.out.now in (
      loop_none (options_of c.args.collector.now c.args.bounds) (g.R.Datagrams.so_far c.args.from.now c.args.reader.now c.args.from.now) (HasPrinted out out c.args.feed.now c.args.tally.now c.args.lines.now)
          c.new-reading.result c.args.collector.now c.requires.options c.new-reading.ensures c.requires.collector c.requires.nothing_heard
          (none_printed out c.args.collector.now c.args.feed.now c.args.tally.now c.args.lines.now (ap (λ (s : CollectorState). s.next) c.requires.collector)
          c.requires.feed c.requires.nothing_written.0 c.requires.nothing_written.1),
      refl,
      refl,
      c.requires.reader,
    )

pub returns-in_err-write_next-clause-stopped : goal.returns-in_err-write_next-clause-stopped
returns-in_err-write_next-clause-stopped g c =
    let e = err_from_is_err_and c.from_residual.result c.from_residual.ensures.1 in
    let p = c.answers.invariant.0 in
    let w = c.write_next.ensures.next in
    rw (e.1 ∙ ap Err e.2)
    (stops_at _ _ _ _ _ _ _ _ _ p w.item w.step w.stepping (g.O.Sink.known c.write_next.new.out) c.gives.new.self (after_item c.answers.collector)
    (c.gives.ensures.reached _ p.answers p.taken p.during p.more w.item p.reached c.if-gives.true w.is) (put_failed c.in_err-write_next.was w.puts))

pub answers-preserved-then-gives : goal.answers-preserved-then-gives
answers-preserved-then-gives g c =
    let options = options_of c.args.collector.now c.args.bounds in
    let i = c.answers.invariant in
    let p = i.0 in
    let w = c.write_next.ensures.next in
    let (enough, now, small, given) = gives_so c.gives.result c.answers.reading c.answers.collector c.gives.new.self c.gives.ensures.gives c.if-gives.true in (
      progress_one _ _ _ _ _ _ _ _ _ p w.item w.step w.stepping (g.O.Sink.known c.write_next.new.out) c.gives.new.self c.write_next.new.collector c.write_next.new.feed c.write_next.new.tally c.write_next.new.lines
          (subst (λ d. ReadingReached options p.answers p.taken p.during (p.more ++ w.item ∷ []) c.gives.new.self d) (sym c.write_next.ensures.collector)
          (c.gives.ensures.reached options p.answers p.taken p.during p.more w.item p.reached c.if-gives.true w.is))
          given w.feed w.calls w.tally (put_done c.in_ok-write_next.was w.puts),
      i.1,
      done_counts c.in_ok-write_next.was c.write_next.ensures.cause ∙ i.2,
      i.3,
    )

pub returns-in_err-flush-clause-stopped : goal.returns-in_err-flush-clause-stopped
returns-in_err-flush-clause-stopped g c =
    let e = err_from_is_err_and c.from_residual-in_err-flush.result c.from_residual-in_err-flush.ensures.1 in
    rw (e.1 ∙ ap Err e.2)
    (stops_out _ _ _ _ _ _ _ _ _ c.answers.invariant.0 (g.O.Sink.known c.flush.new.out)
    (λ none. let ok : IsOk c.flush.result = (c.flush.ensures.nothing none).0 in let clash : false ≡ true = subst IsOk c.in_err-flush.was ok in cc)
    (Writes-front c.in_err-flush.was c.flush.ensures.writes))

pub returns-then-has_ended-clause-finished : goal.returns-then-has_ended-clause-finished
returns-then-has_ended-clause-finished g c =
    let rests = loop_rests _ _ _ _ _ c.answers.invariant.0 c.gives.result c.gives.new.self c.gives.ensures.gives c.if-gives.false in
    let here = progress_out _ _ _ _ _ _ _ _ _ rests (g.O.Sink.known c.flush.new.out) [] (Writes-done c.in_ok-flush.was c.flush.ensures.writes) refl in
    rw c.word.ensures
    (wrote_all _ _ _ _ _ _ _ _ _ here refl (sym c.has_ended.ensures ∙ c.if-has_ended.true) (rests_over c.gives.result c.answers.reading c.answers.collector c.gives.new.self c.gives.ensures.gives c.if-gives.false))

pub read_on-requires-clause-waits : goal.read_on-requires-clause-waits
read_on-requires-clause-waits g c =
    rests_waiting c.gives.result c.answers.reading c.answers.collector c.gives.new.self c.gives.ensures.gives c.if-gives.false (sym c.has_ended.ensures ∙ c.if-has_ended.false)

pub returns-in_err-taken-clause-stopped : goal.returns-in_err-taken-clause-stopped
returns-in_err-taken-clause-stopped g c =
    let e = err_from_is_err_and c.from_residual-in_err-taken.result c.from_residual-in_err-taken.ensures.1 in
    let rests = loop_rests _ _ _ _ _ c.answers.invariant.0 c.gives.result c.gives.new.self c.gives.ensures.gives c.if-gives.false in
    let p = progress_out _ _ _ _ _ _ _ _ _ rests (g.O.Sink.known c.flush.new.out) [] (Writes-done c.in_ok-flush.was c.flush.ensures.writes) refl in
    let waits = rests_waiting c.gives.result c.answers.reading c.answers.collector c.gives.new.self c.gives.ensures.gives c.if-gives.false (sym c.has_ended.ensures ∙ c.if-has_ended.false) in
    rw (e.1 ∙ ap Err e.2)
    (breaks_off _ _ _ _ _ _ _ _ _ p refl (g.R.Datagrams.so_far c.args.from.now c.read_on.new.reader c.read_on.new.from) (λ fault. g.R.Datagrams.until c.args.from.now fault c.read_on.new.from) c.in_err-taken.field-0.0
    c.read_on.new.self c.read_on.new.collector waits (c.in_err-taken.ensures.reads c.args.from.now _ p.answers p.taken p.during p.more p.heard p.reached))

pub note-requires : goal.note-requires
note-requires g c =
    let p = c.answers.invariant.0 in
    omega (arith, many_answered _ _ _ _ _ _ _ _ _ p, p.reached.most, p.reached.usable.most_datagrams)

pub answers-preserved : goal.answers-preserved
answers-preserved g c =
    let i = c.answers.invariant in
    let so_far = g.R.Datagrams.so_far c.args.from.now c.read_on.new.reader c.read_on.new.from in
    let breaks : SourceFault → List Answer → Type 0 = λ fault. g.R.Datagrams.until c.args.from.now fault c.read_on.new.from in
    let rests = loop_rests _ _ _ _ _ i.0 c.gives.result c.gives.new.self c.gives.ensures.gives c.if-gives.false in
    let p = progress_out _ _ _ _ _ _ _ _ _ rests (g.O.Sink.known c.flush.new.out) c.flush.new.self (Writes-done c.in_ok-flush.was c.flush.ensures.writes) c.in_ok-flush.ensures.none in
    let reads = c.in_ok-taken.ensures.reads c.args.from.now _ p.answers p.taken p.during p.more p.heard p.reached in (
      progress_on _ _ _ _ _ _ _ _ _ p c.in_ok-flush.ensures.none so_far breaks c.in_ok-taken.taken c.read_on.new.self c.read_on.new.collector c.note.new.tally c.taken-number.result reads c.taken-number.ensures c.note.ensures,
      c.in_ok-taken.ensures.cause.same (λ failed. failed) ∙ i.1,
      done_counts c.in_ok-flush.was c.flush.ensures.writes.cause ∙ i.2,
      c.read_on.ensures.reader,
    )

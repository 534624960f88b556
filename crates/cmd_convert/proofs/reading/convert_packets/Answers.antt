use Rattle.std.proofs.Common.{[], ◌∷◌, ◌++◌, Err, ap, refl, sym, subst, ◌∙◌, arith}
use Rattle.std.proofs.lemmas.Result.{err_from_is_err_and}
use Rattle.recv_reading.proofs.Common.{capture_options, KeepsFirst, new_reading, ReadingReached}
use Rattle.recv_reading.proofs.Finishing.{gives_so}
use Rattle.recv_reading.proofs.Looping.{loop_none, capture_usable, rests_over, rests_waiting, loop_rests}
use Rattle.recv_reading.proofs.Sources.{read_none}
use Rattle.cmd_convert.specs.Converted.{ConvertedAll}
use Rattle.cmd_convert.specs.Reading.{new_progress}
use Rattle.cmd_convert.proofs.PartLemmas.{all_none}
use Rattle.cmd_convert.proofs.Reaching.{Converting, one_given, loop_halted, one_on, loop_stopped, loop_over}
use Rattle.cmd_convert.proofs.reading.convert_packets.Goals as goal

pub packets-init : goal.packets-init
packets-init g c =
    let out = g.O.Sink.known c.args.out.now in
    let err = g.E.Sink.known c.args.err.now in
    let used = c.args.cutter.now in (
      loop_none (capture_options c.args.range.now) _
          (Converting used c.args.progress.now out out err err) c.new-reading.result c.args.collector.now
          (capture_usable c.args.range.now c.requires.range)
          (c.new-reading.ensures ∙ ap new_reading c.bounds.ensures) c.requires.collector
          (read_none (g.I.Source.known c.args.input.now) c.args.packets.now c.requires.packets)
          (subst (λ q. ConvertedAll used c.args.collector.now [] new_progress q out out err err)
          (sym c.requires.progress) (all_none used c.args.collector.now new_progress out err)),
      refl,
      refl,
      refl,
    )

pub convert_next-requires-clause-counted : goal.convert_next-requires-clause-counted
convert_next-requires-clause-counted g c =
    let i = c.packets.invariant.0 in
    i.has.given ∙ omega (arith, i.reached.next_is, i.reached.given_are)

pub returns-in_err-convert_next-clause-ends : goal.returns-in_err-convert_next-clause-ends
returns-in_err-convert_next-clause-ends g c =
    let i = c.packets.invariant in
    let e = err_from_is_err_and c.from_residual.result c.from_residual.ensures.1 in
    let (enough, now, small, given) = gives_so c.gives.result c.packets.reading c.packets.collector
    c.gives.new.self c.gives.ensures.gives c.if-gives.true in
    rw (e.1 ∙ ap Err e.2)
    (loop_halted _ _ _ _ _ _ _ _ _ _ _ _ i.0 c.packets.cutter c.convert_next.new.progress
    c.in_err-convert_next.field-0.0 (g.O.Sink.known c.convert_next.new.out)
    (g.E.Sink.known c.convert_next.new.err)
    c.in_err-convert_next.ensures.next i.1 enough now (omega arith))

pub packets-preserved-then-gives : goal.packets-preserved-then-gives
packets-preserved-then-gives g c =
    let i = c.packets.invariant in
    let options = capture_options c.args.range.now in
    let n = c.in_ok-convert_next.ensures.next in (
      one_given _ _ _ _ _ _ _ _ _ _ _ _ i.0 c.packets.cutter c.gives.new.self
          c.convert_next.new.collector c.convert_next.new.progress c.in_ok-convert_next.field-0
          (g.O.Sink.known c.convert_next.new.out) (g.E.Sink.known c.convert_next.new.err) n i.1
          (subst (λ d. ReadingReached options i.0.answers i.0.taken i.0.during (i.0.more ++ n.item ∷ [])
          c.gives.new.self d) (sym c.convert_next.ensures.collector)
          (c.gives.ensures.reached options i.0.answers i.0.taken i.0.during i.0.more n.item
          i.0.reached c.if-gives.true n.is))
          (subst (λ d. KeepsFirst c.packets.collector d) (sym c.convert_next.ensures.collector)
          (λ first may. may)),
      c.convert_next.ensures.carry ∙ i.1,
      i.2,
      c.in_ok-convert_next.ensures.cause.same (λ failed. cc) ∙ i.3,
    )

pub returns-then-has_ended-clause-ends : goal.returns-then-has_ended-clause-ends
returns-then-has_ended-clause-ends g c =
    loop_over _ _ _ _ _ _ _ _ _ _ _ _
    (loop_rests _ _ _ _ _ c.packets.invariant.0 c.gives.result c.gives.new.self c.gives.ensures.gives c.if-gives.false)
    (sym c.has_ended.ensures ∙ c.if-has_ended.true)
    (rests_over c.gives.result c.packets.reading c.packets.collector c.gives.new.self c.gives.ensures.gives c.if-gives.false)
    (omega arith)

pub read_packet-requires-clause-waits : goal.read_packet-requires-clause-waits
read_packet-requires-clause-waits g c =
    rests_waiting c.gives.result c.packets.reading c.packets.collector c.gives.new.self c.gives.ensures.gives c.if-gives.false
    (sym c.has_ended.ensures ∙ c.if-has_ended.false)

pub returns-in_err-read_packet-clause-ends : goal.returns-in_err-read_packet-clause-ends
returns-in_err-read_packet-clause-ends g c =
    let options = capture_options c.args.range.now in
    let e = err_from_is_err_and c.from_residual-in_err-read_packet.result
    c.from_residual-in_err-read_packet.ensures.1 in
    let here = loop_rests _ _ _ _ _ c.packets.invariant.0 c.gives.result c.gives.new.self c.gives.ensures.gives c.if-gives.false in
    rw (e.1 ∙ ap Err e.2)
    (loop_stopped _ _ _ _ _ _ _ _ _ _ _ _ here c.read_packet.new.packets
    (g.I.Source.known c.read_packet.new.input) c.in_err-read_packet.field-0.0 c.read_packet.new.self
    c.read_packet.new.collector
    c.in_err-read_packet.ensures.first (c.in_err-read_packet.ensures.reads c.args.input.now options
    here.answers here.taken here.during here.more here.heard here.reached))

pub packets-preserved : goal.packets-preserved
packets-preserved g c =
    let i = c.packets.invariant in
    let options = capture_options c.args.range.now in
    let here = loop_rests _ _ _ _ _ i.0 c.gives.result c.gives.new.self c.gives.ensures.gives c.if-gives.false in (
      one_on _ _ _ _ _ _ _ _ _ _ _ _ here c.read_packet.new.packets
          (g.I.Source.known c.read_packet.new.input) c.in_ok-read_packet.field-0 c.read_packet.new.self
          c.read_packet.new.collector
          c.in_ok-read_packet.ensures.first (c.in_ok-read_packet.ensures.reads c.args.input.now
          options here.answers here.taken here.during here.more here.heard here.reached),
      i.1,
      c.in_ok-read_packet.ensures.cause.same (λ failed. cc) ∙ i.2,
      i.3,
    )

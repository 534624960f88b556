use Rattle.std.proofs.Common.{[], ◌∷◌, ◌++◌, Err, ap, refl, sym, subst, ◌∙◌, arith}
use Rattle.std.proofs.lemmas.Result.{err_from_is_err_and}
use Rattle.drm_links.proofs.KnownLemmas.{done_counts}
use Rattle.drm_reconfiguration.specs.Tracker.{TrackerState}
use Rattle.dcp_collect.specs.View.{item_of as given_of}
use Rattle.mod_feed.specs.Items.{item_of}
use Rattle.recv_reading.proofs.Common.{capture_options, CollectorState, new_reading, ReadingReached}
use Rattle.recv_reading.proofs.Finishing.{gives_so}
use Rattle.recv_reading.proofs.Looping.{loop_none, capture_usable, rests_over, rests_waiting, loop_rests}
use Rattle.recv_reading.proofs.Sources.{read_none}
use Rattle.cmd_unpack.proofs.Loop.{Taking, none_taken, one_taken, loop_broken, one_on, loop_stopped, loop_over, below, after_given}
use Rattle.cmd_unpack.proofs.reading.take_items.Goals as goal

pub items-init : goal.items-init
items-init g c = (
  loop_none (capture_options c.args.range.now) _ (Taking c.args.taker.now c.args.taker.now c.new-feed.result.calls (g.O.Sink.known c.args.out.now) (g.O.Sink.known c.args.out.now))
      c.new-reading.result c.args.collector.now (capture_usable c.args.range.now c.requires.range)
      (c.new-reading.ensures ∙ ap new_reading c.bounds.ensures) c.requires.collector (read_none (g.I.Source.known c.args.input.now) c.args.packets.now c.requires.packets)
      (none_taken c.args.taker.now c.new-feed.result.calls c.args.collector.now (g.O.Sink.known c.args.out.now) (ap (λ (s : CollectorState). s.next) c.requires.collector)
      (ap (λ (f : TrackerState). f.calls) c.new-feed.ensures) c.requires.ready c.requires.none),
  refl,
  refl,
)

pub returns-then-has_ended-clause-takes : goal.returns-then-has_ended-clause-takes
returns-then-has_ended-clause-takes g c =
    loop_over _ _ _ _ _ _ _ _ _ _ _ (loop_rests _ _ _ _ _ c.items.invariant.0 c.gives.result c.gives.new.self c.gives.ensures.gives c.if-gives.false) tt
    (sym c.has_ended.ensures ∙ c.if-has_ended.true) (rests_over c.gives.result c.items.reading c.items.collector c.gives.new.self c.gives.ensures.gives c.if-gives.false) (omega arith)

pub returns-then-has_ended-clause-room : goal.returns-then-has_ended-clause-room
returns-then-has_ended-clause-room g c = below _ _ _ _ _ _ _ _ _ _ _ c.items.invariant.0

pub read_packet-requires-clause-waits : goal.read_packet-requires-clause-waits
read_packet-requires-clause-waits g c =
    rests_waiting c.gives.result c.items.reading c.items.collector c.gives.new.self c.gives.ensures.gives c.if-gives.false (sym c.has_ended.ensures ∙ c.if-has_ended.false)

pub returns-in_err-read_packet-clause-takes : goal.returns-in_err-read_packet-clause-takes
returns-in_err-read_packet-clause-takes g c = λ what new.
    let options = capture_options c.args.range.now in
    let e = err_from_is_err_and c.from_residual-in_err-read_packet.result c.from_residual-in_err-read_packet.ensures.1 in
    let here = loop_rests _ _ _ _ _ c.items.invariant.0 c.gives.result c.gives.new.self c.gives.ensures.gives c.if-gives.false in
    rw (e.1 ∙ ap Err e.2)
    (loop_stopped _ _ _ _ _ _ _ _ _ _ _ here c.read_packet.new.packets (g.I.Source.known c.read_packet.new.input) c.in_err-read_packet.field-0.0 c.items.taker c.read_packet.new.self c.read_packet.new.collector
    (c.in_err-read_packet.ensures.reads c.args.input.now options here.answers here.taken here.during here.more here.heard here.reached) what new)

pub items-preserved : goal.items-preserved
items-preserved g c =
    let i = c.items.invariant in
    let options = capture_options c.args.range.now in
    let here = loop_rests _ _ _ _ _ i.0 c.gives.result c.gives.new.self c.gives.ensures.gives c.if-gives.false in (
      one_on _ _ _ _ _ _ _ _ _ _ _ here c.read_packet.new.packets (g.I.Source.known c.read_packet.new.input) c.in_ok-read_packet.field-0 c.read_packet.new.self c.read_packet.new.collector
          (c.in_ok-read_packet.ensures.reads c.args.input.now options here.answers here.taken here.during here.more here.heard here.reached),
      c.in_ok-read_packet.ensures.cause.same (λ failed. cc) ∙ i.1,
      i.2,
    )

pub returns-in_err-take-clause-takes : goal.returns-in_err-take-clause-takes
returns-in_err-take-clause-takes g c = λ what new.
    let e = err_from_is_err_and c.from_residual.result c.from_residual.ensures.1 in
    let (enough, now, small, given) = gives_so c.gives.result c.items.reading c.items.collector c.gives.new.self c.gives.ensures.gives c.if-gives.true in
    rw (e.1 ∙ ap Err e.2)
    (loop_broken _ _ _ _ _ _ _ _ _ _ _ c.items.invariant.0 c.take.new.self (g.O.Sink.known c.take.new.out) (given_of c.in-Some.next) (item_of c.step.result.item) c.take.result c.step.ensures.item c.take.ensures.takes
    c.take.new.self c.in_err-take.field-0.0 enough now c.in-Some.ensures.out.1 c.in_err-take.was (omega arith) what new)

pub items-preserved-then-gives : goal.items-preserved-then-gives
items-preserved-then-gives g c =
    let i = c.items.invariant in
    let options = capture_options c.args.range.now in
    let next = given_of c.in-Some.next in
    let (enough, now, small, given) = gives_so c.gives.result c.items.reading c.items.collector c.gives.new.self c.gives.ensures.gives c.if-gives.true in
    let after = after_given c.items.collector c.next.follows.lender-at-none now c.next.follows.holds-at-none in (
      one_taken _ _ _ _ _ _ _ _ _ _ _ i.0 c.take.new.self (g.O.Sink.known c.take.new.out) next (item_of c.step.result.item) c.take.result c.step.ensures.item c.take.ensures.takes
          c.gives.new.self c.next.follows.lender-at-none c.step.new.self.calls c.in_ok-take.field-0
          (subst (λ d. ReadingReached options i.0.answers i.0.taken i.0.during (i.0.more ++ next ∷ []) c.gives.new.self d) (sym after)
          (c.gives.ensures.reached options i.0.answers i.0.taken i.0.during i.0.more next i.0.reached c.if-gives.true c.in-Some.ensures.out.1))
          (ap (λ (s : CollectorState). s.next) after) small c.step.ensures.counted c.in_ok-take.was c.take.ensures.ready c.take.ensures.grows,
      i.1,
      done_counts c.in_ok-take.was c.take.ensures.cause ∙ i.2,
    )

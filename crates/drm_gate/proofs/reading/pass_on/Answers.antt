use Rattle.std.proofs.Common.{ℕ, List, ◌++◌, ◌∷◌, [], Bool, refl, sym, ◌∙◌, ap, subst, arith}
use Rattle.drm_links.specs.History.{GroupEvent}
use Rattle.recv_reading.proofs.Common.{new_reading, KeepsFirst, ReadingReached}
use Rattle.recv_reading.proofs.Finishing.{gives_so, gives_none}
use Rattle.recv_reading.proofs.Looping.{rests_over, rests_waiting}
use Rattle.recv_reading.specs.State.{ReadingState}
use Rattle.drm_gate.specs.Gateway.{rules_of}
use Rattle.drm_gate.specs.Hearing.{HearsOn}
use Rattle.drm_gate.proofs.LoopLemmas.{GateLoop, loop_none, counted, sent_limit, one_passed, one_heard, none_left, loop_over, loop_broken}
use Rattle.drm_gate.proofs.reading.pass_on.Goals as goal

pub answers-init : goal.answers-init
answers-init g c =
    let o = c.requires.options in (
      loop_none (rules_of c.args.collector.now c.args.options.now) c.args.sender.now (g.R.Outlets.up c.args.relay.now) (λ events. g.R.Outlets.happened events c.args.relay.now c.args.relay.now) c.new-tally.result c.new-reading.result c.args.collector.now
          (record { window = c.requires.window; frames = o.some_frames; most_frames = o.few_frames; idle = o.idle; limit = o.limit; most_datagrams = omega arith })
          (c.new-reading.ensures ∙ ap (λ (limit : ℕ). new_reading (record { frames = c.args.options.now.frames; idle = c.args.options.now.idle; limit = limit })) c.from.ensures)
          c.requires.collector c.new-tally.ensures (0, c.requires.up 0 (omega (arith, c.requires.links.0))) (g.met.R.Outlets.nothing c.args.relay.now),
      refl,
      c.requires.buffer,
    )

pub pass_next-requires-clause-counted : goal.pass_next-requires-clause-counted
pass_next-requires-clause-counted g c = counted _ _ _ _ _ _ _ _ c.answers.invariant.0

pub pass_next-requires-clause-few_sent : goal.pass_next-requires-clause-few_sent
pass_next-requires-clause-few_sent g c = let s = sent_limit _ _ _ _ _ _ _ _ c.answers.invariant.0 in omega (arith, s)

pub returns-then-none_up : goal.returns-then-none_up
returns-then-none_up g c =
    let i = c.answers.invariant in
    let w = c.pass_next.ensures.next in
    let (enough, now, small, given) = gives_so c.gives.result c.answers.reading c.answers.collector c.gives.new.self c.gives.ensures.gives c.if-gives.true in
    none_left _ _ _ _ _ _ _ _ i.0 (λ events. g.R.Outlets.happened events c.answers.relay c.pass_next.new.outlets) (λ events. g.R.Outlets.happened events c.args.relay.now c.pass_next.new.outlets) (λ xs ys. g.met.R.Outlets.joins xs ys c.args.relay.now c.answers.relay c.pass_next.new.outlets) c.answers.sender c.pass_next.new.tally (g.R.Outlets.up c.pass_next.new.outlets) w.item i.1 now w.is w.one enough (c.none_up.ensures.yes c.if-none_up.true)

pub answers-preserved-then-gives : goal.answers-preserved-then-gives
answers-preserved-then-gives g c =
    let rules = rules_of c.args.collector.now c.args.options.now in
    let i = c.answers.invariant in
    let p = i.0 in
    let w = c.pass_next.ensures.next in
    let to_next = sym c.pass_next.ensures.collector in
    let (enough, now, small, given) = gives_so c.gives.result c.answers.reading c.answers.collector c.gives.new.self c.gives.ensures.gives c.if-gives.true in (
      one_passed _ _ _ _ _ _ _ _ p (λ events. g.R.Outlets.happened events c.answers.relay c.pass_next.new.outlets) (λ events. g.R.Outlets.happened events c.args.relay.now c.pass_next.new.outlets) (λ xs ys. g.met.R.Outlets.joins xs ys c.args.relay.now c.answers.relay c.pass_next.new.outlets) c.answers.sender c.pass_next.new.tally (g.R.Outlets.up c.pass_next.new.outlets) w.item i.1 now w.is w.one c.gives.new.self c.pass_next.new.collector
          (subst (λ d. KeepsFirst c.answers.collector d) to_next (λ first may. may)) (c.none_up.ensures.no c.if-none_up.false)
          (subst (λ d. ReadingReached rules p.answers p.taken p.during (p.more ++ w.item ∷ []) c.gives.new.self d) to_next
          (c.gives.ensures.reached rules p.answers p.taken p.during p.more w.item p.reached c.if-gives.true w.is)),
      c.pass_next.ensures.carry ∙ i.1,
      i.2,
    )

pub passed_all-requires-clause-sent : goal.passed_all-requires-clause-sent
passed_all-requires-clause-sent g c = let s = sent_limit _ _ _ _ _ _ _ _ c.answers.invariant.0 in omega (arith, s)

pub returns-then-has_ended : goal.returns-then-has_ended
returns-then-has_ended g c =
    let rules = rules_of c.args.collector.now c.args.options.now in
    let up = g.R.Outlets.up c.args.relay.now in
    let P : List GroupEvent → Type 0 = λ events. g.R.Outlets.happened events c.args.relay.now c.answers.relay in
    let p = subst (λ (s : ReadingState). GateLoop rules c.args.sender.now up (g.R.Outlets.up c.answers.relay) P c.answers.tally s c.answers.collector)
    (sym (gives_none c.gives.result c.answers.reading c.answers.collector c.gives.new.self c.gives.ensures.gives c.if-gives.false).1) c.answers.invariant.0 in
    loop_over _ _ _ _ _ _ _ _ p c.passed_all.result (sym c.has_ended.ensures ∙ c.if-has_ended.true)
    (rests_over c.gives.result c.answers.reading c.answers.collector c.gives.new.self c.gives.ensures.gives c.if-gives.false) c.passed_all.ensures

pub returns-then-not-hear : goal.returns-then-not-hear
returns-then-not-hear g c =
    let rules = rules_of c.args.collector.now c.args.options.now in
    let up = g.R.Outlets.up c.args.relay.now in
    let P : List GroupEvent → Type 0 = λ events. g.R.Outlets.happened events c.args.relay.now c.answers.relay in
    let p = subst (λ (s : ReadingState). GateLoop rules c.args.sender.now up (g.R.Outlets.up c.answers.relay) P c.answers.tally s c.answers.collector)
    (sym (gives_none c.gives.result c.answers.reading c.answers.collector c.gives.new.self c.gives.ensures.gives c.if-gives.false).1) c.answers.invariant.0 in
    let Q : List GroupEvent → Type 0 = λ events. g.R.Outlets.happened events c.answers.relay c.hear.new.relay in
    let waits = rests_waiting c.gives.result c.answers.reading c.answers.collector c.gives.new.self c.gives.ensures.gives c.if-gives.false (sym c.has_ended.ensures ∙ c.if-has_ended.false) in
    loop_broken _ _ _ _ _ _ _ _ p Q (λ events. g.R.Outlets.happened events c.args.relay.now c.hear.new.relay) (λ xs ys. g.met.R.Outlets.joins xs ys c.args.relay.now c.answers.relay c.hear.new.relay) c.hear.new.reading c.hear.new.collector (g.R.Outlets.up c.hear.new.relay) c.hear.ensures.up waits c.hear.ensures.first
    (subst (λ (b : Bool). HearsOn b rules p.answers p.taken (p.during ++ p.more) c.hear.new.reading c.hear.new.collector Q) c.if-not-hear.true
    (c.hear.ensures.hears rules p.answers p.taken p.during p.more p.reached))

pub answers-preserved : goal.answers-preserved
answers-preserved g c =
    let rules = rules_of c.args.collector.now c.args.options.now in
    let up = g.R.Outlets.up c.args.relay.now in
    let P : List GroupEvent → Type 0 = λ events. g.R.Outlets.happened events c.args.relay.now c.answers.relay in
    let i = c.answers.invariant in
    let p = subst (λ (s : ReadingState). GateLoop rules c.args.sender.now up (g.R.Outlets.up c.answers.relay) P c.answers.tally s c.answers.collector)
    (sym (gives_none c.gives.result c.answers.reading c.answers.collector c.gives.new.self c.gives.ensures.gives c.if-gives.false).1) i.0 in
    let Q : List GroupEvent → Type 0 = λ events. g.R.Outlets.happened events c.answers.relay c.hear.new.relay in
    let waits = rests_waiting c.gives.result c.answers.reading c.answers.collector c.gives.new.self c.gives.ensures.gives c.if-gives.false (sym c.has_ended.ensures ∙ c.if-has_ended.false) in (
      one_heard _ _ _ _ _ _ _ _ p Q (λ events. g.R.Outlets.happened events c.args.relay.now c.hear.new.relay) (λ xs ys. g.met.R.Outlets.joins xs ys c.args.relay.now c.answers.relay c.hear.new.relay) c.hear.new.reading c.hear.new.collector (g.R.Outlets.up c.hear.new.relay) c.hear.ensures.up waits c.hear.ensures.first
          (subst (λ (b : Bool). HearsOn b rules p.answers p.taken (p.during ++ p.more) c.hear.new.reading c.hear.new.collector Q) c.if-not-hear.false
          (c.hear.ensures.hears rules p.answers p.taken p.during p.more p.reached)),
      i.1,
      omega (arith, i.2, c.hear.ensures.buffer),
    )

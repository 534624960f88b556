use Rattle.std.proofs.Common.{◌≡◌, ℕ, ◌+◌, ◌<◌, ◌≤◌, slice_index_or, sym, ◌∙◌, ap, subst, arith, length, length-append, List, [], ◌∷◌}
use Rattle.std.proofs.lemmas.List.{get_or_default}
use Rattle.drm_links.specs.MemoryLink.{LinkState}
use Rattle.drm_links.proofs.Places.{each_more}
use Rattle.plan_script.specs.declared.delivery.Delivery.{Delivery}
use Rattle.recv_report.specs.declared.receiver.Receiver.{Receiver}
use Rattle.cmd_air.specs.Air.{air_rules}
use Rattle.recv_report.specs.Receivers.{IsReceiver}
use Rattle.cmd_air.specs.Feeds.{BringsFeed}
use Rattle.cmd_air.proofs.air_command.feed_all.Goals as goal

pub loop-k-preserved : goal.loop-k-preserved
loop-k-preserved c =
    let i = c.loop-k.invariant in
    let k : ℕ = c.loop-k.k in
    let plan = c.args.plan.now in
    let within : k < length c.args.script.now = (let less = c.loop-k-test.true in let end = c.feeds-k-end.ensures in omega (arith, less, end)) in
    let size : length c.loop-k.receivers.items ≡ k = i.1 in
    let rules : c.rules_for-rules.result ≡ air_rules plan c.args.window = c.rules_for-rules.ensures in
    let receiver : IsReceiver (air_rules plan c.args.window) (k + 1) c.in_ok-receiver.receiver = rw (← rules) c.in_ok-receiver.ensures.receiver in
    let P : ℕ → Receiver LinkState → Type 0 = λ n receiver. IsReceiver (air_rules plan c.args.window) (n + 1) receiver in
    let Q : ℕ → Receiver LinkState → Type 0 = λ n receiver. (feed : List Delivery) → BringsFeed plan (slice_index_or c.args.script.now n feed) receiver.link in
    let fed : BringsFeed plan c.deliveries.result.now c.in_ok-link.link = rw (← i.2) c.in_ok-link.ensures.link in
    let new : Q k c.in_ok-receiver.receiver = λ feed.
    subst (λ l. BringsFeed plan l c.in_ok-receiver.receiver.link) (c.deliveries.ensures ∙ get_or_default c.args.script.now k c.deliveries.result.now feed within)
    (subst (λ l. BringsFeed plan c.deliveries.result.now l) (sym c.in_ok-receiver.ensures.link) fed) in
    let many : length c.push.new.self.items ≡ k + 1 = ap length c.in-Ok.ensures.items ∙ length-append c.loop-k.receivers.items (c.in_ok-receiver.receiver ∷ []) ∙ omega (arith, size) in (
      (let len = c.in-Ok.ensures.len in let before = i.0 in omega (arith, len, before)),
      many,
      c.in_ok-link.ensures.schedule ∙ i.2,
      each_more P c.loop-k.receivers.items c.push.new.self.items c.in_ok-receiver.receiver k size c.in-Ok.ensures.items i.3 receiver,
      each_more Q c.loop-k.receivers.items c.push.new.self.items c.in_ok-receiver.receiver k size c.in-Ok.ensures.items i.4 new,
      c.in_ok-link.ensures.own,
    )

pub returns-clause-feeds : goal.returns-clause-feeds
returns-clause-feeds c = λ k feed none within.
    let all : length c.args.script.now ≤ c.loop-k.k = (let last = c.loop-k-test.false in let end = c.feeds-k-end.ensures in omega (arith, last, end)) in
    c.loop-k.invariant.4 k none (omega (arith, within, all)) feed

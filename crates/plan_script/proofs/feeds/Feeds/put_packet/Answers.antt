use Rattle.std.proofs.Common.{◌+◌, ◌-◌, List, [], ◌∷◌, map, sym, ap, ◌∙◌}
use Rattle.std.specs.List.{range_with_len}
use Rattle.std.proofs.lemmas.Result.{err_from_is_err_and}
use Rattle.plan_script.specs.declared.delivery.Delivery.{Delivery}
use Rattle.plan_script.specs.Script.{delivery, fragment_count}
use Rattle.plan_script.specs.Steps.{with_all}
use Rattle.plan_script.proofs.Putting.{all_are, fragments_from, no_fragments, goes, stops, ends}
use Rattle.plan_script.proofs.feeds.Feeds.put_packet.Goals as goal

pub loop-i-init : goal.loop-i-init
loop-i-init c =
    let count = c.count-count.ensures c.args.plan.now c.of-packet.ensures.packet ∙ ap (fragment_count c.args.plan.now) c.of-packet.ensures.number in
    (ap (λ (ds : List Delivery). with_all c.args.plan.now ds c.args.self.now) (all_are c.args.plan.now c.args.number c.count-count.result count), c.requires.fits)

pub loop-i-preserved : goal.loop-i-preserved
loop-i-preserved c =
    let rest = map (delivery c.args.number) (range_with_len (c.loop-i.i + 1) (c.count-count.result - (c.loop-i.i + 1))) in
    let puts = rw c.in_ok-put_fragment.was at (rw c.of-packet.ensures.number at (c.put_fragment.ensures c.args.plan.now c.of-packet.ensures.packet)) in
    let so_far = ap (λ (ds : List Delivery). with_all c.args.plan.now ds c.loop-i.self) (sym (fragments_from c.args.number c.loop-i.i c.count-count.result c.loop-i-test.true)) ∙ c.loop-i.invariant.0 in
    (goes c.args.plan.now (delivery c.args.number c.loop-i.i ∷ []) rest c.loop-i.self c.put_fragment.new.self _ so_far puts.0, rw puts.0 puts.1)

pub returns-in_err-put_fragment : goal.returns-in_err-put_fragment
returns-in_err-put_fragment c =
    let p = err_from_is_err_and c.from_residual.result c.from_residual.ensures.1 in
    let rest = map (delivery c.args.number) (range_with_len (c.loop-i.i + 1) (c.count-count.result - (c.loop-i.i + 1))) in
    let puts = rw c.of-packet.ensures.number at (c.in_err-put_fragment.ensures c.args.plan.now c.of-packet.ensures.packet) in
    let so_far = ap (λ (ds : List Delivery). with_all c.args.plan.now ds c.loop-i.self) (sym (fragments_from c.args.number c.loop-i.i c.count-count.result c.loop-i-test.true)) ∙ c.loop-i.invariant.0 in
    rw (p.1, p.2) (stops c.in_err-put_fragment.field-0.0 c.args.plan.now c.args.n (delivery c.args.number c.loop-i.i ∷ []) rest c.loop-i.self c.put_fragment.new.self c.put_fragment.new.self _ so_far puts)

pub returns : goal.returns
returns c =
    let so_far = ap (λ (ds : List Delivery). with_all c.args.plan.now ds c.loop-i.self) (sym (no_fragments c.args.number c.loop-i.i c.count-count.result c.loop-i-test.false)) ∙ c.loop-i.invariant.0 in
    ends c.args.plan.now c.loop-i.self _ so_far c.loop-i.invariant.1

use Rattle.std.proofs.Common.{◌≡◌, ◌-◌, List, [], ◌∷◌, map, reverse, sym, ap, ◌∙◌, arith}
use Rattle.std.specs.List.{range_with_len}
use Rattle.std.proofs.lemmas.Result.{err_from_is_err_and}
use Rattle.plan_script.specs.declared.delivery.Delivery.{Delivery}
use Rattle.plan_script.specs.Script.{delivery, fragment_count}
use Rattle.plan_script.specs.Steps.{with_all}
use Rattle.plan_script.proofs.Putting.{all_back, behind, goes, stops, ends}
use Rattle.plan_script.proofs.feeds.Feeds.put_back.Goals as goal

pub loop-left-init : goal.loop-left-init
loop-left-init c =
    let count = c.count-left.ensures c.args.plan.now c.of-packet.ensures.packet ∙ ap (fragment_count c.args.plan.now) c.of-packet.ensures.number in
    (ap (λ (ds : List Delivery). with_all c.args.plan.now ds c.args.self.now) (all_back c.args.plan.now c.args.number c.count-left.result count), c.requires.fits)

pub loop-left-preserved : goal.loop-left-preserved
loop-left-preserved c =
    let rest = reverse (map (delivery c.args.number) (range_with_len 0 (c.loop-left.left - 1))) in
    let puts = rw c.in_ok-put_fragment.was at (rw c.of-packet.ensures.number at (c.put_fragment.ensures c.args.plan.now c.of-packet.ensures.packet)) in
    let so_far = ap (λ (ds : List Delivery). with_all c.args.plan.now ds c.loop-left.self) (sym (behind c.args.number c.loop-left.left (c.loop-left.left - 1) (omega (arith, c.loop-left-test.true)))) ∙ c.loop-left.invariant.0 in
    (goes c.args.plan.now (delivery c.args.number (c.loop-left.left - 1) ∷ []) rest c.loop-left.self c.put_fragment.new.self _ so_far puts.0, rw puts.0 puts.1)

pub returns-in_err-put_fragment : goal.returns-in_err-put_fragment
returns-in_err-put_fragment c =
    let p = err_from_is_err_and c.from_residual.result c.from_residual.ensures.1 in
    let rest = reverse (map (delivery c.args.number) (range_with_len 0 (c.loop-left.left - 1))) in
    let puts = rw c.of-packet.ensures.number at (c.in_err-put_fragment.ensures c.args.plan.now c.of-packet.ensures.packet) in
    let so_far = ap (λ (ds : List Delivery). with_all c.args.plan.now ds c.loop-left.self) (sym (behind c.args.number c.loop-left.left (c.loop-left.left - 1) (omega (arith, c.loop-left-test.true)))) ∙ c.loop-left.invariant.0 in
    rw (p.1, p.2) (stops c.in_err-put_fragment.field-0.0 c.args.plan.now c.args.n (delivery c.args.number (c.loop-left.left - 1) ∷ []) rest c.loop-left.self c.put_fragment.new.self c.put_fragment.new.self _ so_far puts)

pub returns : goal.returns
returns c =
    let none : 0 ≡ c.loop-left.left = omega (arith, c.loop-left-test.false) in
    let so_far = ap (λ k. with_all c.args.plan.now (reverse (map (delivery c.args.number) (range_with_len 0 k))) c.loop-left.self) none ∙ c.loop-left.invariant.0 in
    ends c.args.plan.now c.loop-left.self _ so_far c.loop-left.invariant.1

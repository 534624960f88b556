use Rattle.std.proofs.Common.{◌+◌, ◌-◌, List, sym, ap, ◌∙◌}
use Rattle.std.specs.List.{flat_map, range_with_len}
use Rattle.std.proofs.lemmas.Result.{err_from_is_err_and}
use Rattle.plan_script.specs.declared.delivery.Delivery.{Delivery}
use Rattle.plan_script.specs.Script.{all_of}
use Rattle.plan_script.specs.Steps.{with_all}
use Rattle.plan_script.proofs.Putting.{packets_from, no_packets, goes, stops, ends}
use Rattle.plan_script.proofs.feeds.Feeds.put_packets.Goals as goal

pub loop-number-preserved : goal.loop-number-preserved
loop-number-preserved c =
    let rest = flat_map (all_of c.args.plan.now) (range_with_len (c.loop-number.number + 1) (c.args.end - (c.loop-number.number + 1))) in
    let puts = rw c.in_ok-put_packet.was at c.put_packet.ensures in
    let so_far = ap (λ (ds : List Delivery). with_all c.args.plan.now ds c.loop-number.self) (sym (packets_from c.args.plan.now c.loop-number.number c.args.end c.loop-number-test.true)) ∙ c.loop-number.invariant.0 in
    (goes c.args.plan.now (all_of c.args.plan.now c.loop-number.number) rest c.loop-number.self c.put_packet.new.self _ so_far puts.0, rw puts.0 puts.1)

pub returns-in_err-put_packet : goal.returns-in_err-put_packet
returns-in_err-put_packet c =
    let p = err_from_is_err_and c.from_residual.result c.from_residual.ensures.1 in
    let rest = flat_map (all_of c.args.plan.now) (range_with_len (c.loop-number.number + 1) (c.args.end - (c.loop-number.number + 1))) in
    let so_far = ap (λ (ds : List Delivery). with_all c.args.plan.now ds c.loop-number.self) (sym (packets_from c.args.plan.now c.loop-number.number c.args.end c.loop-number-test.true)) ∙ c.loop-number.invariant.0 in
    rw (p.1, p.2) (stops c.in_err-put_packet.field-0.0 c.args.plan.now c.args.n (all_of c.args.plan.now c.loop-number.number) rest c.loop-number.self c.put_packet.new.self c.put_packet.new.self _ so_far c.in_err-put_packet.ensures)

pub returns : goal.returns
returns c =
    let so_far = ap (λ (ds : List Delivery). with_all c.args.plan.now ds c.loop-number.self) (sym (no_packets c.args.plan.now c.loop-number.number c.args.end c.loop-number-test.false)) ∙ c.loop-number.invariant.0 in
    ends c.args.plan.now c.loop-number.self _ so_far c.loop-number.invariant.1

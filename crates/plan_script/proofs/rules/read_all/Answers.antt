use Rattle.std.proofs.Common.{◌+◌, List, map, ap}
use Rattle.std.proofs.lemmas.Result.{err_from_is_err_and}
use Rattle.plan_script.specs.declared.delivery.Delivery.{Delivery}
use Rattle.plan_script.specs.Steps.{feeds_in, line_after, lines_after, line_fault}
use Rattle.text_lines.proofs.SayLemmas.{goes, stops, ends}
use Rattle.plan_script.proofs.rules.read_all.Goals as goal

pub returns-in_err-take-clause-steps : goal.returns-in_err-take-clause-steps
returns-in_err-take-clause-steps c =
    let p = err_from_is_err_and c.from_residual.result c.from_residual.ensures.1 in
    rw (p.1, p.2) (stops (line_after c.args.plan.now) (line_fault c.in_err-take.field-0.0) (feeds_in c.loop-i.feeds) (c.loop-i.i + 1) c.loop-i.i c.args.lines.now _ _ c.loop-i-test.true c.in_err-take.ensures.steps c.loop-i.invariant.0)

pub loop-i-init : goal.loop-i-init
loop-i-init c = (ap (λ (fs : List (List Delivery)). lines_after c.args.plan.now fs 1 (map (λ w. w.now) c.args.lines.now)) c.new-feeds.ensures.none, c.new-feeds.ensures.counted c.args.plan.now)

pub loop-i-preserved : goal.loop-i-preserved
loop-i-preserved c = (goes (line_after c.args.plan.now) (feeds_in c.loop-i.feeds) _ (c.loop-i.i + 1) c.loop-i.i c.args.lines.now _ _ c.loop-i-test.true c.in_ok-take.ensures.steps c.loop-i.invariant.0, c.in_ok-take.ensures.counted)

pub returns-clause-steps : goal.returns-clause-steps
returns-clause-steps c = ends (line_after c.args.plan.now) (feeds_in c.loop-i.feeds) (c.loop-i.i + 1) c.loop-i.i c.args.lines.now _ c.loop-i-test.false c.loop-i.invariant.0

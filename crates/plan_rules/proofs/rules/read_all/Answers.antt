use Rattle.std.proofs.Common.{◌+◌}
use Rattle.std.proofs.lemmas.Result.{err_from_is_err_and}
use Rattle.text_lines.proofs.SayLemmas.{goes, stops, ends}
use Rattle.plan_rules.specs.Rules.{said_line}
use Rattle.plan_rules.specs.Steps.{line_fault}
use Rattle.plan_rules.proofs.rules.read_all.Goals as goal

pub returns-in_err-take-clause-said : goal.returns-in_err-take-clause-said
returns-in_err-take-clause-said c =
    let p = err_from_is_err_and c.from_residual.result c.from_residual.ensures.1 in
    rw (p.1, p.2) (stops said_line (line_fault c.in_err-take.field-0.0) c.loop-i.read (c.loop-i.i + 1) c.loop-i.i c.args.lines.now _ _ c.loop-i-test.true c.in_err-take.ensures.steps c.loop-i.invariant.0)

pub loop-i-preserved : goal.loop-i-preserved
loop-i-preserved c = (goes said_line c.loop-i.read _ (c.loop-i.i + 1) c.loop-i.i c.args.lines.now _ _ c.loop-i-test.true c.in_ok-take.ensures.steps c.loop-i.invariant.0, λ single. c.in_ok-take.ensures.kept (single c.loop-i.i _ c.loop-i-test.true) (c.loop-i.invariant.1 single))

pub returns-clause-said : goal.returns-clause-said
returns-clause-said c = ends said_line c.loop-i.read (c.loop-i.i + 1) c.loop-i.i c.args.lines.now _ c.loop-i-test.false c.loop-i.invariant.0

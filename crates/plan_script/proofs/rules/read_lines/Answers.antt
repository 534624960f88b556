use Rattle.std.proofs.Common.{List, ℕ, map, ap, ◌∙◌}
use Rattle.std.specs.Borrow.{Bor}
use Rattle.std.proofs.lemmas.Result.{err_from_is_err_and}
use Rattle.std.proofs.lemmas.List.{length-map}
use Rattle.plan_script.specs.Script.{ended}
use Rattle.plan_script.specs.Steps.{feeds_in}
use Rattle.plan_script.proofs.SaidLemmas.{script_fails, script_ends}
use Rattle.plan_script.proofs.KeptLemmas.{script_is_one}
use Rattle.plan_script.proofs.rules.read_lines.Goals as goal

pub returns-in_err-feeds-clause-read : goal.returns-in_err-feeds-clause-read
returns-in_err-feeds-clause-read c =
    let p = err_from_is_err_and c.from_residual.result c.from_residual.ensures.1 in
    rw (p.1, p.2) (script_fails c.in_err-feeds.field-0.0 c.args.plan.now (map (λ l. l.now) c.args.lines.now) c.in_err-feeds.ensures.steps)

pub returns-clause-read : goal.returns-clause-read
returns-clause-read c =
    let same = script_ends c.args.plan.now (map (λ (l : Bor (List ℕ)). l.now) c.args.lines.now) (feeds_in c.in_ok-feeds.feeds) c.in_ok-feeds.ensures.steps
    ∙ ap (λ n. ended n (feeds_in c.in_ok-feeds.feeds)) (length-map c.args.lines.now (λ (l : Bor (List ℕ)). l.now)) in
    rw same c.finish.ensures

pub returns-clause-script : goal.returns-clause-script
returns-clause-script c = script_is_one c.args.plan.now (map (λ (l : Bor (List ℕ)). l.now) c.args.lines.now) c.finish.result (returns-clause-read c)

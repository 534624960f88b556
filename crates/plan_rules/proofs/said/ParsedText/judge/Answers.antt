use Rattle.std.proofs.lemmas.Result.{err_from_is_err_and}
use Rattle.plan_rules.proofs.StepLemmas.{fails, goes_on, refuses, gives_broken}
use Rattle.std.proofs.Common.{◌≡◌, sym, ◌∙◌}
use Rattle.plan_grammar.specs.Said.{keyword_said, LineInLines}
use Rattle.plan_rules.proofs.KeptLemmas.{add_fits}
use Rattle.plan_rules.proofs.said.ParsedText.judge.Goals as goal

pub returns-in_err-check-in-Ok-clause-steps : goal.returns-in_err-check-in-Ok-clause-steps
returns-in_err-check-in-Ok-clause-steps c = λ s gives.
    let p = err_from_is_err_and c.from_residual.result c.from_residual.ensures.1 in
    rw (p.1, p.2) (fails c.args.self.now c.args.n c.args.keyword s c.in-Ok.line c.check.result c.in_err-check-in-Ok.field-0.0 c.requires (rw c.in-Ok.is at gives) c.check.ensures c.in_err-check-in-Ok.was)

pub returns-in_ok-add-in-Ok-clause-steps : goal.returns-in_ok-add-in-Ok-clause-steps
returns-in_ok-add-in-Ok-clause-steps c = λ s gives.
    goes_on c.args.self.now c.add.new.self c.args.n c.args.keyword s c.in-Ok.line c.check.result c.requires (rw c.in-Ok.is at gives) c.check.ensures c.in_ok-check-in-Ok.was c.in_ok-add-in-Ok.ensures

pub returns-in-Broken-clause-steps : goal.returns-in-Broken-clause-steps
returns-in-Broken-clause-steps c = λ s gives.
    refuses c.args.self.now c.args.n c.args.keyword s c.in-Broken.reason c.refused.result c.requires (gives_broken c.args.line c.in-Err.fault c.in-Broken.reason s c.in-Err.is c.in-Broken.is gives) c.refused.ensures

pub returns-in_ok-add-in-Ok-clause-kept : goal.returns-in_ok-add-in-Ok-clause-kept
returns-in_ok-add-in-Ok-clause-kept c = λ in_lines keyword fits.
    let here : LineInLines c.in-Ok.line = rw c.in-Ok.is at in_lines in
    let said : keyword_said c.in-Ok.line ≡ c.args.keyword = rw c.in-Ok.is at keyword in
    rw c.in_ok-add-in-Ok.ensures (add_fits c.args.self.now c.args.n c.in-Ok.line here fits (rw said c.requires) (rw said (sym c.check.ensures ∙ c.in_ok-check-in-Ok.was)))

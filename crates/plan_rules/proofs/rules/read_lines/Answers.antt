use Rattle.std.proofs.Common.{map, length, sym, ◌∙◌}
use Rattle.std.proofs.lemmas.Result.{err_from_is_err_and}
use Rattle.std.proofs.lemmas.List.{length-map}
use Rattle.plan_rules.proofs.EndLemmas.{fails_early, end_fails, end_done, end_complete}
use Rattle.plan_rules.proofs.rules.read_lines.Goals as goal

pub returns-in_err-read-clause-said : goal.returns-in_err-read-clause-said
returns-in_err-read-clause-said c =
    let p = err_from_is_err_and c.from_residual.result c.from_residual.ensures.1 in
    rw (p.1, p.2) (fails_early c.in_err-read.field-0.0 (map (λ l. l.now) c.args.lines.now) c.in_err-read.ensures.said)

pub returns-in_err-check_end-clause-said : goal.returns-in_err-check_end-clause-said
returns-in_err-check_end-clause-said c =
    let p = err_from_is_err_and c.from_residual-in_err-check_end.result c.from_residual-in_err-check_end.ensures.1 in
    rw (p.1, p.2) (end_fails c.in_err-check_end.field-0.0 (map (λ l. l.now) c.args.lines.now) c.in_ok-read.read (length c.args.lines.now) c.check_end.result c.in_ok-read.ensures.said (sym (length-map c.args.lines.now (λ l. l.now))) c.check_end.ensures c.in_err-check_end.was)

pub returns-clause-said : goal.returns-clause-said
returns-clause-said c =
    end_done (map (λ l. l.now) c.args.lines.now) c.in_ok-read.read (length c.args.lines.now) c.check_end.result c.in_ok-read.ensures.said (sym (length-map c.args.lines.now (λ l. l.now))) c.check_end.ensures c.in_ok-check_end.was

pub returns-clause-whole : goal.returns-clause-whole
returns-clause-whole c = end_complete c.in_ok-read.read (length c.args.lines.now) (sym c.check_end.ensures ∙ c.in_ok-check_end.was)

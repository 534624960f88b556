use Rattle.std.proofs.Common.{List, length, sym, ap, ◌∙◌}
use Rattle.plan_rows.specs.declared.field.LineField.{LineField}
use lib.Pointwise.{pointwise_long}
use Rattle.plan_rows.specs.Rows.{takes_one}
use Rattle.plan_rows.proofs.write.row_for.Goals as goal

pub returns-then-takes-clause-count : goal.returns-then-takes-clause-count
returns-then-takes-clause-count c =
    ap (λ (fs : List LineField). length fs) (c.front-then-takes.ensures ∙ sym c.front.ensures) ∙ pointwise_long takes_one c.front.result.now c.args.values.now (sym c.takes.ensures ∙ c.if-takes.true)

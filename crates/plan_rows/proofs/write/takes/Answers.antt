use Rattle.std.proofs.Common.{sym, arith}
use Rattle.std.specs.Cmp.Lexicographic.{unequal}
use Rattle.plan_rows.specs.Rows.{takes_one}
use Rattle.plan_rows.proofs.write.takes.Goals as goal

pub returns-then-fields-values : goal.returns-then-fields-values
returns-then-fields-values c = sym (unequal takes_one c.args.fields.now c.args.values.now (λ e. omega (arith, e, c.if-fields-values.true)))

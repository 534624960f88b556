use Rattle.std.proofs.Common.{sym, arith}
use Rattle.plan_rows.proofs.Reading.{other_count}
use Rattle.plan_rows.proofs.read.all_suit.Goals as goal

pub returns-then-fields-words : goal.returns-then-fields-words
returns-then-fields-words c = sym (other_count c.args.fields.now c.args.words.now (λ e. omega (arith, e, c.if-fields-words.true)))

use Rattle.std.proofs.Common.{sym, ◌∙◌, add-one}
use Rattle.plan_rows.specs.declared.field.LineField.TheVariants.{Line}
use Rattle.plan_rows.specs.declared.keyword.Keyword.TheVariants.{Drmplan}
use Rattle.plan_rows.proofs.RowLemmas.{front_more, front_ends, front_whole}
use Rattle.plan_rows.proofs.rows.front.Goals as goal

pub loop-i-preserved : goal.loop-i-preserved
loop-i-preserved c = rw (add-one c.loop-i.i) (front_more c.args.cells.now c.loop-i.i (Line Drmplan 0 0) c.loop-i-test.true (sym c.begins.ensures ∙ c.if-begins.false) ∙ c.loop-i.invariant)

pub returns-then-begins : goal.returns-then-begins
returns-then-begins c = sym (front_ends c.args.cells.now c.loop-i.i (Line Drmplan 0 0) c.loop-i-test.true (sym c.begins.ensures ∙ c.if-begins.true)) ∙ c.loop-i.invariant

pub returns : goal.returns
returns c = sym (front_whole c.args.cells.now c.loop-i.i c.loop-i-test.false) ∙ c.loop-i.invariant

use Rattle.std.proofs.Common.{Option, Some, refl, ap, ◌∙◌}
use Rattle.plan_rows.specs.declared.fault.Wrong.{Wrong}
use Rattle.plan_rows.proofs.Reading.{one_spelled, one_wrong}
use Rattle.plan_rows.proofs.read.read_fields.Goals.{in-Ok+in_default, in-Err-Broken}
use Rattle.plan_rows.proofs.read.read_fields.Goals as goal

abbrev some : Wrong → Option Wrong
some x = Some x

pub loop-i-preserved : goal.loop-i-preserved
loop-i-preserved c = elim c.match-read_field.branch [
  | in-Ok+in_default w ↦ one_spelled c.args.fields.now c.args.words.now c.loop-i.i _ _ c.loop-i.wrong _ c.loop-i.values.items _ _ _ c.loop-i-test.true c.requires w.in-Ok.ensures c.loop-i.invariant w.wrong-is (rw w.values-is w.in_default.ensures.items)
  | in-Err-Broken w ↦ one_wrong c.args.fields.now c.args.words.now c.loop-i.i _ _ c.loop-i.wrong _ c.loop-i.values.items _ _ _ c.loop-i-test.true c.requires (rw w.in-Err-Broken.field-0-is at w.in-Err-Broken.ensures) c.loop-i.invariant (w.wrong-is ∙ ap some w.first_wrong.ensures) (rw w.values-is refl)
]

use Rattle.std.proofs.Common.{ap, get_or, arith}
use Rattle.plan_rows.specs.declared.field.LineField.TheVariants.{Line}
use Rattle.plan_rows.specs.declared.keyword.Keyword.TheVariants.{Drmplan}
use Rattle.plan_rows.specs.Fields.{word_of}
use Rattle.plan_rows.proofs.Writing.{word_on, line_ends}
use Rattle.plan_rows.proofs.write.write_fields.Goals as goal

pub loop-i-preserved : goal.loop-i-preserved
loop-i-preserved c =
    word_on c.args.fields.now c.args.values.now c.loop-i.i (Line Drmplan 0 0) c.index-values-i.result c.extend_from_slice.new.self.items c.loop-i.out.items c.push.new.self.items c.write_value.new.out.items _
    c.loop-i-test.true (omega (arith, c.loop-i-test.true, c.requires)) c.loop-i.invariant c.in_ok-push.ensures.items c.in_ok-write_value.ensures (ap (word_of (get_or c.args.fields.now c.loop-i.i (Line Drmplan 0 0))) c.index-values-i.is)

pub returns : goal.returns
returns c =
    line_ends c.args.fields.now c.args.values.now c.loop-i.i c.args.out.now.items c.extend_from_slice.new.self.items c.loop-i.out.items c.push-2.new.self.items c.args.keyword.now c.as_bytes.result.now
    c.loop-i-test.false c.requires c.as_bytes.ensures.value c.in_ok-extend_from_slice.ensures.items c.loop-i.invariant c.in_ok-push-2.ensures.items

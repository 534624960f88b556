use Rattle.std.specs.Prelude.{string_bytes}
use Rattle.std.proofs.Common.{ap, ◌∙◌, arith}
use Rattle.plan_rows.specs.Frequencies.{channel_word}
use Rattle.plan_rows.proofs.Writing.{frequency_on}
use Rattle.plan_rows.proofs.write_field.frequencies.Goals as goal

pub loop-k-preserved : goal.loop-k-preserved
loop-k-preserved c =
    frequency_on c.args.list.now c.loop-k.k c.get.result.now (string_bytes c.loop-k.text) (string_bytes c.push_str.new.self) c.separator.result.now (string_bytes c.push_str-in-loop-k.new.self) c.as_str.result.now
    (omega (arith, c.loop-k-test.true, c.len-k-end.ensures)) c.loop-k.invariant c.in_ok-push_str.ensures.bytes c.separator.ensures c.in_ok-push_str-2.ensures.bytes
    (c.as_str.ensures.value ∙ c.in_ok-element.ensures ∙ ap channel_word c.get.ensures)

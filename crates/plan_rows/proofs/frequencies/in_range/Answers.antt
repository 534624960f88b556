use Rattle.std.proofs.Common.{◌∙◌, arith}
use Rattle.plan_rows.proofs.Elements.{spelled_texts, few_elements}
use Rattle.plan_rows.proofs.frequencies.in_range.Goals as goal

pub channels-requires : goal.channels-requires
channels-requires c = spelled_texts c.args.elements.now ∙ c.requires

pub returns : goal.returns
returns c = few_elements c.args.elements.now c.channels.result (omega (arith, c.if-elements-gt16.false)) c.channels.ensures

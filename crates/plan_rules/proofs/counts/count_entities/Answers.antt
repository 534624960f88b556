use Rattle.std.proofs.Common.{◌≡◌, ◌+◌, ◌-◌, length, take, sym, ◌∙◌, arith}
use Rattle.std.proofs.lemmas.List.{length-take-le}
use Rattle.plan_rules.specs.Rules.{count_entities}
use Rattle.plan_rules.proofs.CountLemmas.{last_counts}
use Rattle.plan_rules.proofs.counts.count_entities.Goals as goal

pub returns-then-is : goal.returns-then-is
returns-then-is c =
    let last = last_counts c.loop-left.left.now c.said-item.result c.keyword-keyword.result c.in-len1-up.len_at_least c.said-item.is c.keyword-keyword.ensures in
    let none : count_entities 0 c.loop-left.left.now ≡ 0 = rw (sym c.is.ensures ∙ c.if-is.true) at last in
    omega (arith, none, c.loop-left.invariant.0)

pub loop-left-preserved-then-is_entity : goal.loop-left-preserved-then-is_entity
loop-left-preserved-then-is_entity c =
    let left = c.loop-left.left.now in
    let last = last_counts c.loop-left.left.now c.said-item.result c.keyword-keyword.result c.in-len1-up.len_at_least c.said-item.is c.keyword-keyword.ensures in
    let one_more : count_entities 0 left ≡ count_entities 0 (take (length left - 1) left) + 1 = rw (sym c.is.ensures ∙ c.if-is.false, sym c.is_entity.ensures ∙ c.if-is_entity.true) at last in
    (omega (arith, one_more, c.loop-left.invariant.0), omega (arith, c.loop-left.invariant.1, c.in-len1-up.len_at_least, length-take-le (length left - 1) left (omega arith)))

pub loop-left-preserved : goal.loop-left-preserved
loop-left-preserved c =
    let left = c.loop-left.left.now in
    let last = last_counts c.loop-left.left.now c.said-item.result c.keyword-keyword.result c.in-len1-up.len_at_least c.said-item.is c.keyword-keyword.ensures in
    let as_many : count_entities 0 left ≡ count_entities 0 (take (length left - 1) left) = rw (sym c.is.ensures ∙ c.if-is.false, sym c.is_entity.ensures ∙ c.if-is_entity.false) at last in
    (omega (arith, as_many, c.loop-left.invariant.0), omega (arith, c.loop-left.invariant.1, c.in-len1-up.len_at_least, length-take-le (length left - 1) left (omega arith)))

use Rattle.std.proofs.Common.{sym, refl, ◌∙◌}
use Rattle.plan_rows.proofs.Elements.{spelled_elements}
use Rattle.plan_rows.proofs.frequencies.spelled.Goals as goal

pub returns-then-are_spelled : goal.returns-then-are_spelled
returns-then-are_spelled c =
    let shown = spelled_elements c.deref.result.now c.in_ok-parts.parts.items c.args.list.now c.are_spelled.result c.deref.ensures.value c.in_ok-parts.ensures c.are_spelled.ensures in
    (sym shown ∙ c.if-are_spelled.true, c.in_ok-parts.ensures)

pub returns : goal.returns
returns c =
    let shown = spelled_elements c.deref.result.now c.in_ok-parts.parts.items c.args.list.now c.are_spelled.result c.deref.ensures.value c.in_ok-parts.ensures c.are_spelled.ensures in
    (sym shown ∙ c.if-are_spelled.false, refl)

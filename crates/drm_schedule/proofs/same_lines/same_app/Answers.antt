use Rattle.std.proofs.Common.{sym, ◌∙◌}
use Rattle.drm_schedule.proofs.SameLemmas.{same_first, other_first}
use Rattle.drm_schedule.proofs.same_lines.same_app.Goals as goal

pub returns-then-eq : goal.returns-then-eq
returns-then-eq c =
    let one = c.in-Some.one in
    let other = c.in-Some-app_numbers.other in
    same_first _ _ one.0 other.0 one.1.now other.1.now _ _ c.in-Some.ensures.said c.in-Some-app_numbers.ensures.said (c.in-Some.ensures.count ∙ sym c.in-Some-app_numbers.ensures.count) c.if-eq.true c.eq.ensures c.eq-then-eq.ensures

pub returns-else-eq : goal.returns-else-eq
returns-else-eq c =
    let one = c.in-Some.one in
    let other = c.in-Some-app_numbers.other in
    other_first _ _ one.0 other.0 one.1.now other.1.now _ c.in-Some.ensures.said c.in-Some-app_numbers.ensures.said (c.in-Some.ensures.count ∙ sym c.in-Some-app_numbers.ensures.count) c.if-eq.false c.eq.ensures

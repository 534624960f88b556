use Rattle.std.proofs.Common.{subst, ℕ, ◌≡◌, ◌+◌, ◌∙◌}
use Rattle.std.specs.Option.{IfSome}
use Rattle.rs_patterns.specs.Marks.{is_marked}
use Rattle.rs_patterns.specs.Positions.{erased_positions}
use Rattle.rs_patterns.proofs.PatternPlaces.{right_with}
use Rattle.rs_patterns.proofs.patterns.prepare_at.Goals as goal

pub returns-clause-right : goal.returns-clause-right
returns-clause-right c =
    let i = c.requires.is_for in
    right_with (record c.args.kept.now { distance = c.args.distance }) c.prepare-kept.result c.args.count c.args.k c.args.start c.args.marks.now c.requires.erased.some
    (subst (λ (d : ℕ). IfSome c.prepare-kept.result (λ p. p
    ≡ record { places = erased_positions c.args.count (is_marked c.args.marks.now) c.args.start c.args.k (c.args.k + 48); distance = d }))
    (c.last.ensures ∙ c.turn_to.ensures) c.prepare-kept.ensures)
    (record { same_count = i.same_count; same_k = i.same_k; same_first = i.same_first; same_marks = i.same_marks })

use Rattle.std.proofs.Common.{List, ◌∙◌, subst, sym, ℕ}
use Rattle.std.specs.Result.{OnOk}
use Rattle.rs_erase.specs.Code.{HasCodeWord}
use Rattle.rs_erase.specs.Spaced.{HasMessage}
use Rattle.rs_patterns.proofs.PatternPlaces.{right_pattern}
use Rattle.rs_patterns.proofs.patterns.solve_kept.Goals as goal

pub solve_spaced-requires : goal.solve_spaced-requires
solve_spaced-requires c =
    let here = right_pattern c.make_ready.new.kept c.in-Some.pattern c.args.count c.args.k c.args.start c.args.marks.now c.requires.erased.some c.make_ready.ensures.right c.in-Some.is
    c.make_ready.ensures.is_for in
    here.1 ∙ sym (c.last.ensures ∙ c.turn_to.ensures)

pub returns-in-Some-clause-solved : goal.returns-in-Some-clause-solved
returns-in-Some-clause-solved c =
    let w = c.args.word.now in
    let here = right_pattern c.make_ready.new.kept c.in-Some.pattern c.args.count c.args.k c.args.start c.args.marks.now c.requires.erased.some c.make_ready.ensures.right c.in-Some.is
    c.make_ready.ensures.is_for in (
      λ ok. subst (λ (es : List ℕ). HasCodeWord es w) here.0 (c.solve_spaced.ensures.solved.0 ok),
      λ has. c.solve_spaced.ensures.solved.1 (subst (λ (es : List ℕ). HasCodeWord es w) (sym here.0) has),
    )

pub returns-in-Some-clause-message : goal.returns-in-Some-clause-message
returns-in-Some-clause-message c =
    let w = c.args.word.now in
    let here = right_pattern c.make_ready.new.kept c.in-Some.pattern c.args.count c.args.k c.args.start c.args.marks.now c.requires.erased.some c.make_ready.ensures.right c.in-Some.is
    c.make_ready.ensures.is_for in
    subst (λ (es : List ℕ). OnOk c.solve_spaced.result (HasMessage es w c.solve_spaced.new.word)) here.0 c.solve_spaced.ensures.message

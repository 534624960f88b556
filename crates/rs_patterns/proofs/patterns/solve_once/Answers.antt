use Rattle.std.proofs.Common.{List, subst, sym, ℕ}
use Rattle.std.specs.Result.{OnOk}
use Rattle.rs_erase.specs.Code.{HasCodeWord}
use Rattle.rs_erase.specs.Spaced.{HasMessage}
use Rattle.rs_patterns.proofs.PatternPlaces.{pattern_in}
use Rattle.rs_patterns.proofs.patterns.solve_once.Goals as goal

pub solve_spaced-requires : goal.solve_spaced-requires
solve_spaced-requires c = (pattern_in c.prepare.result c.in-Some.pattern _ _ c.prepare.ensures c.in-Some.is).1

pub returns-in-Some-clause-solved : goal.returns-in-Some-clause-solved
returns-in-Some-clause-solved c =
    let w = c.args.word.now in
    let here = pattern_in c.prepare.result c.in-Some.pattern _ _ c.prepare.ensures c.in-Some.is in (
      λ ok. subst (λ (es : List ℕ). HasCodeWord es w) here.0 (c.solve_spaced.ensures.solved.0 ok),
      λ has. c.solve_spaced.ensures.solved.1 (subst (λ (es : List ℕ). HasCodeWord es w) (sym here.0) has),
    )

pub returns-in-Some-clause-message : goal.returns-in-Some-clause-message
returns-in-Some-clause-message c =
    let w = c.args.word.now in
    let here = pattern_in c.prepare.result c.in-Some.pattern _ _ c.prepare.ensures c.in-Some.is in
    subst (λ (es : List ℕ). OnOk c.solve_spaced.result (HasMessage es w c.solve_spaced.new.word)) here.0 c.solve_spaced.ensures.message

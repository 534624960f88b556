use Rattle.std.proofs.Common.{List, arith, ap, length, subst, sym, take, ◌+◌, ◌≤◌, ℕ}
use Rattle.std.specs.Result.{OnOk}
use Rattle.rs_erase.specs.Code.{ArePlaces, HasCodeWord}
use Rattle.rs_erase.specs.Spaced.{HasMessage}
use Rattle.rs_patterns.proofs.PatternPlaces.{whole_message}
use Rattle.rs_patterns.specs.Marks.{is_marked}
use Rattle.rs_patterns.proofs.Positions.{are_places, erased_length}
use Rattle.rs_patterns.proofs.patterns.solve_by_places.Goals as goal

pub solve-requires : goal.solve-requires
solve-requires c =
    subst ArePlaces (sym c.write_erased-erased.ensures.erased) (are_places c.args.count (is_marked c.args.marks.now) c.args.start c.args.k c.requires.few)

pub returns-clause-solved : goal.returns-clause-solved
returns-clause-solved c =
    let w = c.args.word.now in
    let is = c.write_erased-erased.ensures.erased in
    let enough = c.requires.enough in
    let few : length (take c.write_erased-erased.result c.write_erased-erased.new.positions) ≤ 48 =
    omega (arith, enough, ap length is, erased_length c.args.count (is_marked c.args.marks.now) c.args.start c.args.k (c.args.k + 48)) in (
      λ ok. subst (λ (es : List ℕ). HasCodeWord es w) is (c.solve.ensures.solved.0 ok).1,
      λ has. c.solve.ensures.solved.1 (few, subst (λ (es : List ℕ). HasCodeWord es w) (sym is) has),
    )

pub returns-clause-message : goal.returns-clause-message
returns-clause-message c =
    let w = c.args.word.now in
    let es = take c.write_erased-erased.result c.write_erased-erased.new.positions in
    subst (λ (ds : List ℕ). OnOk c.solve.result (HasMessage ds w c.solve.new.word)) c.write_erased-erased.ensures.erased
    (whole_message c.solve.result es w c.solve.new.word c.solve.ensures.only)

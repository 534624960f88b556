use Rattle.std.proofs.Common.{arith, ap, length, subst, sym, List, ℕ, ◌+◌, ◌≡◌}
use Rattle.std.specs.Option.{IfSome}
use Rattle.rs_erase.specs.Code.{ArePlaces}
use Rattle.rs_patterns.specs.Marks.{is_marked}
use Rattle.rs_patterns.proofs.Positions.{are_places, erased_length}
use Rattle.rs_patterns.proofs.patterns.prepare.Goals as goal

pub prepare-requires-clause-places : goal.prepare-requires-clause-places
prepare-requires-clause-places c =
    subst ArePlaces (sym c.write_erased-erased.ensures.erased) (are_places c.args.count (is_marked c.args.marks.now) c.args.start c.args.k c.requires.few)

pub prepare-requires-clause-enough : goal.prepare-requires-clause-enough
prepare-requires-clause-enough c =
    let enough = c.requires.enough in
    omega (arith, enough, ap length c.write_erased-erased.ensures.erased, erased_length c.args.count (is_marked c.args.marks.now) c.args.start c.args.k (c.args.k + 48))

pub returns : goal.returns
returns c =
    subst (λ (es : List ℕ). IfSome c.prepare.result (λ p. p ≡ record { places = es; distance = c.args.spacing.now })) c.write_erased-erased.ensures.erased c.prepare.ensures

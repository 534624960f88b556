-- The test of two cuts is their equality.
use Rattle.std.proofs.Common.{rules, ◌≡◌, true, Option, None, Some, refl, sym, ap, subst}
use Rattle.std.specs.Bool.{Decides}
use Rattle.std.specs.Option.{option_eq}
use Rattle.std.proofs.lemmas.Bool.{true≢false}
use Rattle.dcp_pft.specs.declared.shape.Shape.{Shape}
use Rattle.dcp_pft.specs.contracts.shape.ShapePartialEq.TheImpl as shape
use Rattle.dcp_pft.specs.contracts.shape.ShapeEq.TheImpl.Laws as shape_laws

shape_same : (a b : Shape) → Decides (shape.ghosts.eq a b) (a ≡ b)
shape_same a b = (search rules, λ e. subst (λ (x : Shape). shape.ghosts.eq a x ≡ true) e (shape_laws.laws-law.refl a))

some_is : (a b : Shape) → Some a ≡ Some b → a ≡ b
some_is a b same = cc

pub cut_same : (a b : Option Shape) → Decides (option_eq shape.ghosts.eq a b) (a ≡ b)
cut_same None None = (λ yes. refl, λ same. refl)
cut_same None (Some b) = (λ yes. absurd (true≢false (sym yes)), λ same. absurd cc)
cut_same (Some a) None = (λ yes. absurd (true≢false (sym yes)), λ same. absurd cc)
cut_same (Some a) (Some b) = (λ yes. ap Some ((shape_same a b).0 yes), λ same. (shape_same a b).1 (some_is a b same))

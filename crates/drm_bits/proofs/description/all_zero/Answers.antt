use Rattle.std.proofs.Common.{◌≡◌, ℕ, inl, inr, arith, get_or, refl, sym, subst, ◌∙◌}
use Rattle.std.proofs.lemmas.Bool.{cases_eq}
use Rattle.drm_bits.proofs.PartLemmas.{all_zero, one_zero}
use Rattle.drm_bits.proofs.description.all_zero.Goals as goal

pub returns-then-not-is_zero : goal.returns-then-not-is_zero
returns-then-not-is_zero c = (
  λ never. cc never,
  λ all. sym c.if-not-is_zero.true ∙ c.is_zero.ensures.1 (one_zero c.args.parts.now c.loop-part.part-index (record { a = 0; b = 0 }) c.loop-part-test.true all),
)

pub loop-part-preserved : goal.loop-part-preserved
loop-part-preserved c = λ k within.
    elim (cases_eq k c.loop-part.part-index) [
      | inl e ↦ subst (λ (m : ℕ). ((get_or c.args.parts.now m (record { a = 0; b = 0 })).a ≡ 0) × ((get_or c.args.parts.now m (record { a = 0; b = 0 })).b ≡ 0)) (sym e) (c.is_zero.ensures.0 c.if-not-is_zero.false)
      | inr other ↦ c.loop-part.invariant k (omega (arith, within, other))
    ]

pub returns : goal.returns
returns c = (λ always. all_zero c.args.parts.now (λ k within. c.loop-part.invariant k (omega (arith, within, c.loop-part-test.false))), λ all. refl)

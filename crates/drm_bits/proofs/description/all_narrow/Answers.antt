use Rattle.std.proofs.Common.{◌<◌, ◌^◌, ℕ, inl, inr, arith, get_or, refl, sym, subst, ◌∙◌}
use Rattle.std.proofs.lemmas.Bool.{cases_eq}
use Rattle.drm_bits.proofs.PartLemmas.{parts_fit, part_fits}
use Rattle.drm_bits.proofs.description.all_narrow.Goals as goal

pub returns-then-not-is_narrow : goal.returns-then-not-is_narrow
returns-then-not-is_narrow c = (
  λ never. cc never,
  λ all. sym c.if-not-is_narrow.true ∙ c.is_narrow.ensures.1 (part_fits c.args.parts.now c.loop-part.part-index (record { a = 0; b = 0 }) c.loop-part-test.true all),
)

pub loop-part-preserved : goal.loop-part-preserved
loop-part-preserved c = λ k within.
    elim (cases_eq k c.loop-part.part-index) [
      | inl e ↦ subst (λ (m : ℕ). ((get_or c.args.parts.now m (record { a = 0; b = 0 })).a < 2 ^ 12) × ((get_or c.args.parts.now m (record { a = 0; b = 0 })).b < 2 ^ 12)) (sym e) (c.is_narrow.ensures.0 c.if-not-is_narrow.false)
      | inr other ↦ c.loop-part.invariant k (omega (arith, within, other))
    ]

pub returns : goal.returns
returns c = (λ always. parts_fit c.args.parts.now (λ k within. c.loop-part.invariant k (omega (arith, within, c.loop-part-test.false))), λ all. refl)

-- The tables of inverses, powers and logarithms.
use Rattle.std.proofs.Common.{◌≡◌, ℕ, ◌<◌, ◌==◌, ◌||◌, ◌&&◌, refl, arith, get_or, inl, inr, ltb}
use Rattle.std.proofs.lemmas.Bool.{and_parts, eqb-true, ltb-true, or_cases}
use Rattle.gf_field.specs.Field.{power, times, polynomial_product, remainder}
use Rattle.gf_field.specs.Laws.{AreLogarithms, ArePowers}
use Rattle.gf_field.specs.declared.inverses.TheConstants.{INVERSES}
use Rattle.gf_field.specs.declared.logarithms.TheConstants.{LOGS, POWERS}
use Rattle.gf_field.proofs.EachBelow.{each_at}

pub inverse_is : (x : ℕ) → 0 < x → x < 256 → times x (get_or INVERSES x 0) ≡ 1
unfolding times polynomial_product remainder
inverse_is x pos lt =
    elim (or_cases (x == 0) (times x (get_or INVERSES x 0) == 1) (each_at 256 (λ x. (x == 0) || (times x (get_or INVERSES x 0) == 1)) refl x lt)) [
      | inl none ↦ let e : x ≡ 0 = eqb-true x 0 none in absurd (omega arith)
      | inr one ↦ eqb-true _ _ one
    ]

pub powers_are : ArePowers POWERS
unfolding power times polynomial_product remainder
powers_are j lt = eqb-true _ _ (each_at 255 (λ n. get_or POWERS n 0 == power n) refl j lt)

logarithm_is : (v : ℕ) → 0 < v → v < 256 → (get_or LOGS v 0 < 255) × (get_or POWERS (get_or LOGS v 0) 0 ≡ v)
logarithm_is v pos lt =
    elim (or_cases (v == 0) (ltb (get_or LOGS v 0) 255 && (get_or POWERS (get_or LOGS v 0) 0 == v))
    (each_at 256 (λ v. (v == 0) || (ltb (get_or LOGS v 0) 255 && (get_or POWERS (get_or LOGS v 0) 0 == v))) refl v lt)) [
      | inl none ↦ let e : v ≡ 0 = eqb-true v 0 none in absurd (omega arith)
      | inr here ↦
          let both = and_parts (ltb (get_or LOGS v 0) 255) (get_or POWERS (get_or LOGS v 0) 0 == v) here in
          (ltb-true _ _ both.0, eqb-true _ _ both.1)
    ]

pub logarithms_are : AreLogarithms LOGS POWERS
logarithms_are = record {
  none = refl;
  below = λ v pos lt. let h = logarithm_is v pos lt in h.0;
  power = λ v pos lt. let h = logarithm_is v pos lt in h.1;
}

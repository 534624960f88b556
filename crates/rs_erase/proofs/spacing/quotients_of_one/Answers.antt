use Rattle.std.proofs.Common.{◌≡◌, ◌∙◌, ap, arith, bit_xor, refl, sym}
use Rattle.gf_field.specs.Field.{power}
use Rattle.gf_field.proofs.Polynomial.{same_from_xor}
use Rattle.gf_field.proofs.Powers.{power_apart}
use Rattle.rs_erase.proofs.spacing.quotients_of_one.Goals as goal

zeroth : power 0 ≡ 1
unfolding power
zeroth = refl

pub div-requires : goal.div-requires
div-requires c = λ e.
    let m = c.loop-m.m in
    let low = c.loop-m.auto.m in
    let same : power m ≡ 1 = same_from_xor (power m) 1 (sym (c.add.ensures ∙ ap (λ x. bit_xor x 1) c.power.ensures) ∙ e) in
    let none : m ≡ 0 = power_apart m 0 (omega arith) (omega arith) (same ∙ sym zeroth) in
    omega arith

use Rattle.std.proofs.Common.{ℕ, ◌/◌, ◌^◌, refl, sym, subst, ap, ◌∙◌, arith, w8}
use Rattle.std.proofs.lemmas.Simd.{SwzOk, swz_l, zip2_splat}
use Rattle.hex.specs.Hex.{lower_digits}
use Rattle.text_output.proofs.LookedUp.{may_look_up, looked_up}
use Rattle.text_output.proofs.digits.high_digits.Goals as goal

abbrev by_vector : ℕ → ℕ
by_vector byte = byte / 2 ^ 4

abbrev in_numbers : ℕ → ℕ
in_numbers byte = byte / 16

pub swizzle : goal.swizzle
swizzle c =
    subst (SwzOk w8 16 16 0) (sym (zip2_splat (λ (x y : ℕ). x / 2 ^ y) c.args.bytes 16 4 c.fits-bytes.0))
    (may_look_up by_vector in_numbers (λ byte. refl) (λ byte lt. omega (arith, lt)) c.args.bytes c.fits-bytes.0 c.fits-bytes.1)

pub returns : goal.returns
returns c =
    ap (swz_l w8 16 lower_digits 0) (zip2_splat (λ (x y : ℕ). x / 2 ^ y) c.args.bytes 16 4 c.fits-bytes.0)
    ∙ looked_up by_vector in_numbers (λ byte. refl) (λ byte lt. omega (arith, lt)) 0 lower_digits c.args.bytes (omega (arith, c.fits-bytes.0)) c.fits-bytes.1

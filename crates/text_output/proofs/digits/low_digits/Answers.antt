use Rattle.std.proofs.Common.{ℕ, ◌%◌, sym, subst, ap, ◌∙◌, arith, bit_and, w8}
use Rattle.std.proofs.lemmas.Nat.{and_mask}
use Rattle.std.proofs.lemmas.Simd.{SwzOk, swz_l, zip2_splat}
use Rattle.hex.specs.Hex.{lower_digits}
use Rattle.text_output.proofs.LookedUp.{may_look_up, looked_up}
use Rattle.text_output.proofs.digits.low_digits.Goals as goal

abbrev by_vector : ℕ → ℕ
by_vector byte = bit_and byte 15

abbrev in_numbers : ℕ → ℕ
in_numbers byte = byte % 16

pub swizzle : goal.swizzle
swizzle c =
    subst (SwzOk w8 16 16 0) (sym (zip2_splat bit_and c.args.bytes 16 15 c.fits-bytes.0))
    (may_look_up by_vector in_numbers (λ byte. and_mask byte 4) (λ byte lt. omega arith) c.args.bytes c.fits-bytes.0 c.fits-bytes.1)

pub returns : goal.returns
returns c =
    ap (swz_l w8 16 lower_digits 0) (zip2_splat bit_and c.args.bytes 16 15 c.fits-bytes.0)
    ∙ looked_up by_vector in_numbers (λ byte. and_mask byte 4) (λ byte lt. omega arith) 0 lower_digits c.args.bytes (omega (arith, c.fits-bytes.0)) c.fits-bytes.1

use Rattle.std.proofs.Common.{length, refl}
use Rattle.drm_bits.proofs.BitsLemmas.{value-below}
use Rattle.drm_bits.proofs.DigitsLemmas.{value-digits, digits-value}
use Rattle.drm_bits.proofs.laws.digits_and_numbers.Goals as goal

pub returns : goal.returns
returns c = record { value = value-digits; digits = λ bits. (value-below bits, digits-value (length bits) bits refl) }

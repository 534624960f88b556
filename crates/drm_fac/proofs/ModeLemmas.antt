-- Laws of a mode's code and of its letter: each is read again as the mode.
use Rattle.std.proofs.Common.{◌≡◌, ◌<◌, Option, Some, refl, sym, ap, ◌∙◌, arith}
use Rattle.std.specs.Option.{unwrap_or}
use Rattle.drm_fac.specs.declared.mode.Mode.{Mode}
use Rattle.drm_fac.specs.declared.mode.Mode.TheVariants.{A, B, C, D}
use Rattle.drm_fac.specs.Mode.{mode_code, mode_letter, mode_of_code, mode_of_letter}

pub code_again : (mode : Mode) → mode_of_code (mode_code mode) ≡ Some mode
code_again A = refl
code_again B = refl
code_again C = refl
code_again D = refl

pub letter_again : (mode : Mode) → mode_of_letter (mode_letter mode) ≡ Some mode
letter_again A = refl
letter_again B = refl
letter_again C = refl
letter_again D = refl

pub code_small : (mode : Mode) → mode_code mode < 4
code_small A = omega arith
code_small B = omega arith
code_small C = omega arith
code_small D = omega arith

-- a code is that of one mode
pub one_code : (m n : Mode) → mode_code m ≡ mode_code n → m ≡ n
one_code m n same =
    let again : Some m ≡ Some n = sym (code_again m) ∙ (ap mode_of_code same ∙ code_again n) in
    ap (λ (o : Option Mode). unwrap_or o m) again

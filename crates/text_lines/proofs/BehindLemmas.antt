-- What stands behind spaces and words.
use Rattle.std.proofs.Common.{◌≡◌, ℕ, ◌+◌, suc, eqb, false, List, [], ◌∷◌, ◌++◌, refl, ap, arith}
use Rattle.std.specs.Prelude.{◌≢◌, All}
use Rattle.std.specs.List.{after_first, position_or_len}
use Rattle.std.proofs.lemmas.Bool.{ne_eqb}
use Rattle.text_lines.specs.Lines.{after_spaces}

-- a line that begins with no space stands behind the spaces in front of it
pub no_spaces : (bs : List ℕ) → ((rest : List ℕ) → bs ≢ 32 ∷ rest) → after_spaces bs ≡ bs
no_spaces [] none = refl
no_spaces (b ∷ bs) none =
    let other : b ≢ 32 = λ e. none bs (ap (λ (x : ℕ). x ∷ bs) e) in
    rw (ne_eqb b 32 other) refl

pub after_part : (w rest : List ℕ) → All (λ b. eqb b 32 ≡ false) w → after_first (λ b. eqb b 32) (w ++ 32 ∷ rest) ≡ rest
after_part [] rest whole = refl
after_part (b ∷ bs) rest whole =
    let head : eqb b 32 ≡ false = whole 0 0 (omega arith) in
    let tail : All (λ b. eqb b 32 ≡ false) bs = λ k d lt. whole (suc k) d (omega arith) in
    let n : ℕ = position_or_len (λ b. eqb b 32) (bs ++ 32 ∷ rest) in
    let one_on : 1 + n + 1 ≡ suc (n + 1) = omega arith in
    rw (head, one_on) (after_part bs rest tail)

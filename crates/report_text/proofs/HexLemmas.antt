-- Digits for bits.
use Rattle.std.proofs.Common.{◌≡◌, ℕ, zero, suc, ◌+◌, ◌-◌, ◌*◌, ◌/◌, ◌<◌, ◌≤◌, Bool, List, [], ◌∷◌, ◌++◌, length, take, drop, refl, sym, ◌∙◌, ap, arith, append-nil}
use Rattle.std.specs.Prelude.{slice_index}
use Rattle.std.proofs.lemmas.List.{length-drop, length-take-le, take-append-drop}
use Rattle.std.proofs.Math.Seq.{take-add}
use Rattle.hex.specs.Hex.{lower_digits}
use Rattle.drm_bits.specs.Bits.{value}
use Rattle.report_text.specs.HexBits.{hex_of_bits}

-- fewer than four bits have none
no_digit : (bits : List Bool) → length bits < 4 → hex_of_bits bits ≡ []
no_digit [] few = refl
no_digit (a ∷ []) few = refl
no_digit (a ∷ b ∷ []) few = refl
no_digit (a ∷ b ∷ c ∷ []) few = refl
no_digit (a ∷ b ∷ c ∷ d ∷ bits) few = absurd (omega (arith, few))

-- four have one
one_digit : (bits : List Bool) → 4 ≤ length bits → hex_of_bits (take 4 bits) ≡ slice_index lower_digits (value (take 4 bits)) ∷ []
one_digit (a ∷ b ∷ c ∷ d ∷ bits) enough = refl
one_digit (a ∷ b ∷ c ∷ []) enough = absurd (omega (arith, enough))
one_digit (a ∷ b ∷ []) enough = absurd (omega (arith, enough))
one_digit (a ∷ []) enough = absurd (omega (arith, enough))
one_digit [] enough = absurd (omega (arith, enough))

-- behind whole digits those of the rest follow
digits_then : (front rest : List Bool) (n : ℕ) → length front ≡ 4 * n → hex_of_bits (front ++ rest) ≡ hex_of_bits front ++ hex_of_bits rest
digits_then [] rest n long = refl
digits_then (a ∷ []) rest n long = absurd (omega (arith, long))
digits_then (a ∷ b ∷ []) rest n long = absurd (omega (arith, long))
digits_then (a ∷ b ∷ c ∷ []) rest n long = absurd (omega (arith, long))
digits_then (a ∷ b ∷ c ∷ d ∷ front) rest zero long = absurd (omega (arith, long))
digits_then (a ∷ b ∷ c ∷ d ∷ front) rest (suc n) long =
    ap (λ l. slice_index lower_digits (value (a ∷ b ∷ c ∷ d ∷ [])) ∷ l) (digits_then front rest n (omega (arith, long)))

-- the first digits, and the next ones
pub more_digits : (n m : ℕ) (bits : List Bool) → 4 * n ≤ length bits
    → hex_of_bits (take (4 * (n + m)) bits) ≡ hex_of_bits (take (4 * n) bits) ++ hex_of_bits (take (4 * m) (drop (4 * n) bits))
more_digits n m bits enough =
    let size : 4 * (n + m) ≡ 4 * n + 4 * m = omega arith in
    ap (λ k. hex_of_bits (take k bits)) size
    ∙ (ap hex_of_bits (take-add (4 * n) (4 * m) bits)
    ∙ digits_then (take (4 * n) bits) (take (4 * m) (drop (4 * n) bits)) n (length-take-le (4 * n) bits enough))

-- and the next one
pub digit_more : (n number digit : ℕ) (bits : List Bool) → 4 * (n + 1) ≤ length bits → number ≡ value (take 4 (drop (4 * n) bits)) → digit ≡ slice_index lower_digits number
    → hex_of_bits (take (4 * (n + 1)) bits) ≡ hex_of_bits (take (4 * n) bits) ++ digit ∷ []
digit_more n number digit bits enough is shown =
    let before = hex_of_bits (take (4 * n) bits) in
    more_digits n 1 bits (omega (arith, enough))
    ∙ ap (λ l. before ++ l)
    (one_digit (drop (4 * n) bits) (omega (arith, enough, length-drop (4 * n) bits))
    ∙ ap (λ d. d ∷ []) (ap (slice_index lower_digits) (sym is) ∙ sym shown))

-- of all bits
pub all_digits : (bits : List Bool) (n : ℕ) → n ≡ length bits / 4 → hex_of_bits (take (4 * n) bits) ≡ hex_of_bits bits
all_digits bits n is =
    let enough : 4 * n ≤ length bits = omega (arith, is) in
    let few : length (drop (4 * n) bits) < 4 = omega (arith, is, length-drop (4 * n) bits) in
    let front = hex_of_bits (take (4 * n) bits) in
    sym (append-nil front) ∙ (ap (λ l. front ++ l) (sym (no_digit (drop (4 * n) bits) few))
    ∙ (sym (digits_then (take (4 * n) bits) (drop (4 * n) bits) n (length-take-le (4 * n) bits enough))
    ∙ ap hex_of_bits (take-append-drop (4 * n) bits)))

-- the first of so many digits, and those that are left
pub digits_left : (left some : ℕ) (bits rest : List Bool) (digits : List ℕ) → some ≤ left → 4 * left ≤ length bits
    → digits ≡ hex_of_bits (take (4 * some) bits) → rest ≡ drop (4 * some) bits
    → hex_of_bits (take (4 * left) bits) ≡ digits ++ hex_of_bits (take (4 * (left - some)) rest)
digits_left left some bits rest digits few enough shown is =
    let all : left ≡ some + (left - some) = omega arith in
    let m : ℕ = 4 * (left - some) in
    ap (λ k. hex_of_bits (take (4 * k) bits)) all
    ∙ (more_digits some (left - some) bits (omega (arith, few, enough))
    ∙ (ap (λ l. l ++ hex_of_bits (take m (drop (4 * some) bits))) (sym shown) ∙ ap (λ b. digits ++ hex_of_bits (take m b)) (sym is)))

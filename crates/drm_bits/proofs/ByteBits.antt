-- The bits of a byte list, and of its front and its rest.
use Rattle.std.proofs.Common.{◌≡◌, ℕ, zero, suc, ◌+◌, ◌*◌, ◌<◌, ◌^◌, List, [], ◌∷◌, ◌++◌, length, take, drop, get_or, refl, sym, ◌∙◌, ap, arith}
use Rattle.std.proofs.Math.Seq.{take-append-add, drop-append-add, take-nil, drop-nil}
use Rattle.std.proofs.lemmas.List.{take_at, drop_at}
use Rattle.drm_bits.specs.Bits.{value, digits, bits_of}
use Rattle.drm_bits.proofs.BitsLemmas.{length-digits, length-bits_of}
use Rattle.drm_bits.proofs.DigitsLemmas.{value-digits}

pub bits_of-take : (n : ℕ) (bytes : List ℕ) → bits_of (take n bytes) ≡ take (8 * n) (bits_of bytes)
bits_of-take zero bytes = refl
bits_of-take (suc n) [] = sym (take-nil (8 * suc n))
bits_of-take (suc n) (b ∷ bytes) =
    let more : length (digits 8 b) + 8 * n ≡ 8 * suc n = omega (arith, length-digits 8 b) in
    ap (λ l. digits 8 b ++ l) (bits_of-take n bytes)
    ∙ (sym (take-append-add (digits 8 b) (bits_of bytes) (8 * n)) ∙ ap (λ k. take k (digits 8 b ++ bits_of bytes)) more)

pub bits_of-drop : (n : ℕ) (bytes : List ℕ) → bits_of (drop n bytes) ≡ drop (8 * n) (bits_of bytes)
bits_of-drop zero bytes = refl
bits_of-drop (suc n) [] = sym (drop-nil (8 * suc n))
bits_of-drop (suc n) (b ∷ bytes) =
    let more : length (digits 8 b) + 8 * n ≡ 8 * suc n = omega (arith, length-digits 8 b) in
    bits_of-drop n bytes
    ∙ (sym (drop-append-add (digits 8 b) (bits_of bytes) (8 * n)) ∙ ap (λ k. drop k (digits 8 b ++ bits_of bytes)) more)

-- bytes are known by their bits
pub same_bytes : (xs ys : List ℕ) → ((i : ℕ) → get_or xs i 0 < 2 ^ 8) → ((i : ℕ) → get_or ys i 0 < 2 ^ 8) → bits_of xs ≡ bits_of ys → xs ≡ ys
same_bytes [] [] small_xs small_ys same = refl
same_bytes [] (y ∷ ys) small_xs small_ys same = absurd (omega (arith, ap length same, length-bits_of (y ∷ ys)))
same_bytes (x ∷ xs) [] small_xs small_ys same = absurd (omega (arith, ap length same, length-bits_of (x ∷ xs)))
same_bytes (x ∷ xs) (y ∷ ys) small_xs small_ys same =
    let first : digits 8 x ≡ digits 8 y = sym (take_at (digits 8 x) (bits_of xs) 8 (length-digits 8 x)) ∙ (ap (take 8) same ∙ take_at (digits 8 y) (bits_of ys) 8 (length-digits 8 y)) in
    let rest : bits_of xs ≡ bits_of ys = sym (drop_at (digits 8 x) (bits_of xs) 8 (length-digits 8 x)) ∙ (ap (drop 8) same ∙ drop_at (digits 8 y) (bits_of ys) 8 (length-digits 8 y)) in
    let byte : x ≡ y = sym (value-digits 8 x (small_xs 0)) ∙ (ap value first ∙ value-digits 8 y (small_ys 0)) in
    let bytes : xs ≡ ys = same_bytes xs ys (λ i. small_xs (suc i)) (λ i. small_ys (suc i)) rest in
    cc

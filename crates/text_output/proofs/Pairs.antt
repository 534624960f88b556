-- Two vectors whose lanes stand by turns.
use Rattle.std.proofs.Common.{◌≡◌, ℕ, ◌+◌, ◌*◌, ◌/◌, ◌%◌, ◌≤◌, List, [], ◌∷◌, ◌++◌, length, map, take, get_or, refl, sym, ap, ◌∙◌, subst, arith, append_assoc}
use Rattle.std.proofs.lemmas.List.{ext_get_or}
use Rattle.std.proofs.lemmas.List.FromFn.{length-map-range_with_len, get_or-map-range_with_len}
use Rattle.std.specs.List.{range_with_len}
use Rattle.std.proofs.lemmas.Simd.{length-put_chunk, take_more_put_chunk}
use lib.Lanes.{put_chunk}
use Rattle.hex.specs.Hex.{encode_with, encode_lower, lower_digits}
use Rattle.text_output.specs.Digits.{paired}

-- the items of a vector, one by one
abbrev items : List ℕ → List ℕ
items v = map (λ i. get_or v i 0) (range_with_len 0 16)

items_are : (v : List ℕ) → length v ≡ 16 → v ≡ items v
items_are v size =
    let f : ℕ → ℕ = λ i. get_or v i 0 in
    ext_get_or 0 v (items v) (omega (arith, size, length-map-range_with_len f 0 16))
    (λ i lt. sym (get_or-map-range_with_len f 0 16 i i 0 (omega (arith, size, lt)) (omega arith)))

-- the lanes of both vectors, which stand one behind the other
abbrev by_turns : List ℕ → List ℕ
by_turns lanes = map (λ i. get_or lanes (i / 2 + 16 * (i % 2)) 0) (range_with_len 0 32)

pub turns_are_pairs : (first second : List ℕ) → length first ≡ 16 → length second ≡ 16 → by_turns (first ++ second) ≡ paired first second
turns_are_pairs first second size_first size_second =
    let P : List ℕ → List ℕ → Type 0 = λ p q. by_turns (p ++ q) ≡ paired p q in
    let both : P (items first) (items second) = refl in
    subst (λ p. P p second) (sym (items_are first size_first)) (subst (λ q. P (items first) q) (sym (items_are second size_second)) both)

pub paired_digits : (bytes : List ℕ) → paired (map (λ byte. get_or lower_digits (byte / 16) 0) bytes) (map (λ byte. get_or lower_digits (byte % 16) 0) bytes) ≡ encode_lower bytes
unfolding encode_with
paired_digits [] = refl
paired_digits (b ∷ bytes) = ap (λ l. get_or lower_digits (b / 16) 0 ∷ get_or lower_digits (b % 16) 0 ∷ l) (paired_digits bytes)

-- two vectors written one behind the other
pub two_written : (at : ℕ) (x a b : List ℕ) → length a ≡ 16 → length b ≡ 16 → 2 * at + 32 ≤ length x
    → take (2 * at + 32) (put_chunk (2 * at + 16) (put_chunk (2 * at) x a) b) ≡ take (2 * at) x ++ (a ++ b)
two_written at x a b size_a size_b fits =
    let y : List ℕ = put_chunk (2 * at) x a in
    let long : length y ≡ length x = length-put_chunk (2 * at) x a in
    take_more_put_chunk (2 * at + 16) y b (2 * at + 32) (omega (arith, size_b)) (omega (arith, fits, long))
    ∙ (ap (λ l. l ++ b) (take_more_put_chunk (2 * at) x a (2 * at + 16) (omega (arith, size_a)) (omega (arith, fits)))
    ∙ append_assoc (take (2 * at) x) a b)

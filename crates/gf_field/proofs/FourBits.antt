-- Four bits of each lane as a position among sixteen.
use Rattle.std.proofs.Common.{◌≡◌, ℕ, ◌+◌, ◌*◌, ◌/◌, ◌%◌, ◌^◌, ◌<◌, ◌≤◌, zero, suc, List, [], ◌∷◌, length, refl, ap, ap₂, ◌∙◌, sym, subst, arith, get_or, replicate, bit_xor, bit_and, Fits, w8}
use Rattle.std.proofs.lemmas.Nat.{and_mask}
use Rattle.std.proofs.lemmas.Simd.{SwzOk, SwzOk-from_below, swz_l, get_or-swz_l_below}
use lib.Lanes.{zip2, Each1}
use Rattle.gf_field.specs.Lanes.{of_nibbles}

pub low_nibble : (x : ℕ) → bit_and x 15 ≡ x % 16
low_nibble x = and_mask x 4

low_below : (n : ℕ) (v : List ℕ) → Each1 (λ j. j < 16) (zip2 bit_and v (replicate n 15))
low_below n [] = tt
low_below zero (x ∷ v) = tt
low_below (suc n) (x ∷ v) = (subst (λ (j : ℕ). j < 16) (sym (low_nibble x)) (omega arith), low_below n v)

high_below : (n : ℕ) (v : List ℕ) → Each1 (Fits w8) v → Each1 (λ j. j < 16) (zip2 (λ (x y : ℕ). x / 2 ^ y) v (replicate n 4))
high_below n [] h = tt
high_below zero (x ∷ v) h = tt
high_below (suc n) (x ∷ v) h = (let lt : x < 256 = h.0.fits in omega arith, high_below n v h.1)

length-low : (n : ℕ) (v : List ℕ) → length v ≡ n → length (zip2 bit_and v (replicate n 15)) ≡ n
length-low zero [] e = refl
length-low zero (x ∷ v) e = absurd (omega arith)
length-low (suc n) [] e = absurd (omega arith)
length-low (suc n) (x ∷ v) e = ap (λ (k : ℕ). suc k) (length-low n v (omega arith))

length-high : (n : ℕ) (v : List ℕ) → length v ≡ n → length (zip2 (λ (x y : ℕ). x / 2 ^ y) v (replicate n 4)) ≡ n
length-high zero [] e = refl
length-high zero (x ∷ v) e = absurd (omega arith)
length-high (suc n) [] e = absurd (omega arith)
length-high (suc n) (x ∷ v) e = ap (λ (k : ℕ). suc k) (length-high n v (omega arith))

pub low_ok : (v : List ℕ) → length v ≡ 16 → SwzOk w8 16 16 0 (zip2 bit_and v (replicate 16 15))
low_ok v e = SwzOk-from_below w8 16 1 16 0 (zip2 bit_and v (replicate 16 15)) (omega arith) (let l = length-low 16 v e in omega arith) (low_below 16 v)

pub high_ok : (v : List ℕ) → length v ≡ 16 → Each1 (Fits w8) v → SwzOk w8 16 16 0 (zip2 (λ (x y : ℕ). x / 2 ^ y) v (replicate 16 4))
high_ok v e h =
    SwzOk-from_below w8 16 1 16 0 (zip2 (λ (x y : ℕ). x / 2 ^ y) v (replicate 16 4)) (omega arith) (let l = length-high 16 v e in omega arith) (high_below 16 v h)

looked_up : (xs : List ℕ) (i j : ℕ) (js : List ℕ) → i < 16 → j < 16 → get_or (swz_l w8 16 xs i (j ∷ js)) 0 0 ≡ get_or xs j 0
looked_up xs i j js hi hj =
    get_or-swz_l_below w8 16 xs i (j ∷ js) 0 (omega arith) hj ∙ ap (λ (k : ℕ). get_or xs k 0) (let z : (i + 0) / 16 ≡ 0 = omega arith in let e : 16 * ((i + 0) / 16) + j ≡ j = omega arith in e)

pub nibbles_are : (n i : ℕ) (low high v : List ℕ) → length v ≡ n → i + n ≤ 16 → Each1 (Fits w8) v
    → zip2 bit_xor (swz_l w8 16 low i (zip2 bit_and v (replicate n 15))) (swz_l w8 16 high i (zip2 (λ (x y : ℕ). x / 2 ^ y) v (replicate n 4))) ≡ of_nibbles low high v
nibbles_are zero i low high [] e le h = refl
nibbles_are zero i low high (x ∷ v) e le h = absurd (omega arith)
nibbles_are (suc n) i low high [] e le h = absurd (omega arith)
nibbles_are (suc n) i low high (x ∷ v) e le h =
    let lt : x < 256 = h.0.fits in
    let first = looked_up low i (bit_and x 15) (zip2 bit_and v (replicate n 15)) (omega arith) (subst (λ (j : ℕ). j < 16) (sym (low_nibble x)) (omega arith))
    ∙ ap (λ (k : ℕ). get_or low k 0) (low_nibble x) in
    let second = looked_up high i (x / 16) (zip2 (λ (x y : ℕ). x / 2 ^ y) v (replicate n 4)) (omega arith) (omega arith) in
    ap₂ (λ (z : ℕ) (zs : List ℕ). z ∷ zs) (ap₂ bit_xor first second) (nibbles_are n (suc i) low high v (omega arith) (omega arith) h.1)

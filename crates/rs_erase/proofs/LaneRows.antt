-- A row's three vectors as one list.
use Rattle.std.proofs.Common.{◌≡◌, ℕ, ◌+◌, zero, suc, List, [], ◌∷◌, ◌++◌, length, take, drop, map, refl, sym, ap, ap₂, ◌∙◌, subst, arith, bit_xor, Fits, w8}
use Rattle.std.proofs.Math.Seq.{drop-drop, take-add}
use Rattle.std.proofs.lemmas.List.{append_assoc, length-append, take_all}
use Rattle.std.proofs.lemmas.Simd.{length-put_chunk, take_more_put_chunk}
use lib.Lanes.{Each1, chunk, put_chunk, zip2}
use Rattle.std.specs.Int.Bits.{xor_zero_r}
use Rattle.gf_field.specs.Field.{times}
use Rattle.gf_field.proofs.Times.{zero_times}
use Rattle.rs_erase.specs.Code.{AreElements}
use Rattle.rs_erase.specs.Polynomial.{add, scale}
use Rattle.rs_erase.proofs.Elements.{append_elements, cons_elements, no_elements}

pub length_three : (a b c : List ℕ) → length a ≡ 16 → length b ≡ 16 → length c ≡ 16 → length (a ++ (b ++ c)) ≡ 48
length_three a b c la lb lc = omega (arith, length-append a (b ++ c), length-append b c)

-- ---- sums and multiples

pub scaled_is : (f : ℕ) (a : List ℕ) → map (times f) a ≡ scale f a
scaled_is f [] = refl
scaled_is f (x ∷ a) = ap (λ (zs : List ℕ). times f x ∷ zs) (scaled_is f a)

-- a multiple by 0 adds nothing
pub zero_lanes : (a b : List ℕ) → length a ≡ length b → a ≡ zip2 bit_xor a (map (times 0) b)
zero_lanes [] [] e = refl
zero_lanes [] (y ∷ b) e = absurd (omega arith)
zero_lanes (x ∷ a) [] e = absurd (omega arith)
zero_lanes (x ∷ a) (y ∷ b) e = ap₂ (λ (z : ℕ) (zs : List ℕ). z ∷ zs) (sym (ap (bit_xor x) (zero_times y) ∙ xor_zero_r x)) (zero_lanes a b (omega arith))

pub zero_multiple : (a b : List ℕ) → length a ≡ length b → a ≡ add a (scale 0 b)
zero_multiple [] [] e = refl
zero_multiple [] (y ∷ b) e = absurd (omega arith)
zero_multiple (x ∷ a) [] e = absurd (omega arith)
zero_multiple (x ∷ a) (y ∷ b) e = ap₂ (λ (z : ℕ) (zs : List ℕ). z ∷ zs) (sym (ap (bit_xor x) (zero_times y) ∙ xor_zero_r x)) (zero_multiple a b (omega arith))

scale_append : (f : ℕ) (p q : List ℕ) → scale f p ++ scale f q ≡ scale f (p ++ q)
scale_append f [] q = refl
scale_append f (y ∷ p) q = ap (λ (zs : List ℕ). times f y ∷ zs) (scale_append f p q)

pub three_scaled : (f : ℕ) (a b c x y z : List ℕ) → x ≡ map (times f) a → y ≡ map (times f) b → z ≡ map (times f) c
    → x ++ (y ++ z) ≡ scale f (a ++ (b ++ c))
three_scaled f a b c x y z ex ey ez =
    ap₂ (λ (p q : List ℕ). p ++ q) (ex ∙ scaled_is f a)
    (ap₂ (λ (p q : List ℕ). p ++ q) (ey ∙ scaled_is f b) (ez ∙ scaled_is f c) ∙ scale_append f b c)
    ∙ scale_append f a (b ++ c)

pub sum_is : (a b : List ℕ) → length a ≡ length b → zip2 bit_xor a b ≡ add a b
sum_is [] [] e = refl
sum_is [] (y ∷ b) e = absurd (omega arith)
sum_is (x ∷ a) [] e = absurd (omega arith)
sum_is (x ∷ a) (y ∷ b) e = ap (λ (zs : List ℕ). bit_xor x y ∷ zs) (sum_is a b (omega arith))

add_append : (a p b q : List ℕ) → length a ≡ length p → add a p ++ add b q ≡ add (a ++ b) (p ++ q)
add_append [] [] b q e = refl
add_append [] (y ∷ p) b q e = absurd (omega arith)
add_append (x ∷ a) [] b q e = absurd (omega arith)
add_append (x ∷ a) (y ∷ p) b q e = ap (λ (zs : List ℕ). bit_xor x y ∷ zs) (add_append a p b q (omega arith))

pub three_sums : (a b c p q s : List ℕ) → length a ≡ 16 → length b ≡ 16 → length c ≡ 16 → length p ≡ 16 → length q ≡ 16 → length s ≡ 16
    → zip2 bit_xor a p ++ (zip2 bit_xor b q ++ zip2 bit_xor c s) ≡ add (a ++ (b ++ c)) (p ++ (q ++ s))
three_sums a b c p q s la lb lc lp lq ls =
    ap₂ (λ (x y : List ℕ). x ++ y) (sum_is a p (la ∙ sym lp))
    (ap₂ (λ (x y : List ℕ). x ++ y) (sum_is b q (lb ∙ sym lq)) (sum_is c s (lc ∙ sym ls)) ∙ add_append b q c s (lb ∙ sym lq))
    ∙ add_append a p (b ++ c) (q ++ s) (la ∙ sym lp)

-- ---- read and written

chunk_and : (i m n : ℕ) (xs : List ℕ) → chunk i m xs ++ chunk (i + m) n xs ≡ chunk i (m + n) xs
chunk_and i m n xs = sym (take-add m n (drop i xs) ∙ ap (λ (ys : List ℕ). take m (drop i xs) ++ take n ys) (drop-drop m i xs))

pub three_read : (i : ℕ) (xs a b c : List ℕ) → a ≡ chunk i 16 xs → b ≡ chunk (i + 16) 16 xs → c ≡ chunk (i + 32) 16 xs → a ++ (b ++ c) ≡ chunk i 48 xs
three_read i xs a b c ea eb ec =
    ap₂ (λ (p q : List ℕ). p ++ q) ea
    (ap₂ (λ (p q : List ℕ). p ++ q) eb (ec ∙ ap (λ (k : ℕ). chunk k 16 xs) (let e : i + 32 ≡ i + 16 + 16 = omega arith in e)) ∙ chunk_and (i + 16) 16 16 xs)
    ∙ chunk_and i 16 32 xs

pub three_written : (z a b c : List ℕ) → length z ≡ 48 → length a ≡ 16 → length b ≡ 16 → length c ≡ 16
    → put_chunk 32 (put_chunk 16 (put_chunk 0 z a) b) c ≡ a ++ (b ++ c)
three_written z a b c lz la lb lc =
    let p = put_chunk 0 z a in let q = put_chunk 16 p b in let r = put_chunk 32 q c in
    let lp : length p ≡ 48 = length-put_chunk 0 z a ∙ lz in
    let lq : length q ≡ 48 = length-put_chunk 16 p b ∙ lp in
    let lr : length r ≡ 48 = length-put_chunk 32 q c ∙ lq in
    sym (take_all 48 r (omega arith))
    ∙ take_more_put_chunk 32 q c 48 (omega arith) (omega arith)
    ∙ ap (λ (t : List ℕ). t ++ c) (take_more_put_chunk 16 p b 32 (omega arith) (omega arith) ∙ ap (λ (t : List ℕ). t ++ b) (take_more_put_chunk 0 z a 16 (omega arith) (omega arith)))
    ∙ append_assoc a b c

lanes_elements : (v : List ℕ) → Each1 (Fits w8) v → AreElements v
lanes_elements [] h = no_elements
lanes_elements (x ∷ v) h = cons_elements x v h.0.fits (lanes_elements v h.1)

pub three_elements : (a b c r : List ℕ) → Each1 (Fits w8) a → Each1 (Fits w8) b → Each1 (Fits w8) c → r ≡ a ++ (b ++ c) → AreElements r
three_elements a b c r ha hb hc e =
    subst AreElements (sym e) (append_elements a (b ++ c) (lanes_elements a ha) (append_elements b c (lanes_elements b hb) (lanes_elements c hc)))

-- ---- from the second on

take_append : (n : ℕ) (a b : List ℕ) → length a ≡ n → (c : ℕ) → take (n + 1) (a ++ c ∷ b) ≡ a ++ c ∷ []
take_append zero [] b e c = refl
take_append zero (x ∷ a) b e c = absurd (omega arith)
take_append (suc n) [] b e c = absurd (omega arith)
take_append (suc n) (x ∷ a) b e c =
    ap (λ (k : ℕ). take k (x ∷ a ++ c ∷ b)) (let q : suc n + 1 ≡ suc (n + 1) = omega arith in q) ∙ ap (λ (zs : List ℕ). x ∷ zs) (take_append n a b (omega arith) c)

one_on_is : (x y : ℕ) (a b : List ℕ) → length (x ∷ a) ≡ 16 → chunk 1 16 ((x ∷ a) ++ (y ∷ b)) ≡ a ++ y ∷ []
one_on_is x y a b e = take_append 15 a b (omega arith) y

-- the last vector is followed by one whose first lane is y
pub three_from_second : (a b c z p q s : List ℕ) (y : ℕ) → length a ≡ 16 → length b ≡ 16 → length c ≡ 16
    → p ≡ chunk 1 16 (a ++ b) → q ≡ chunk 1 16 (b ++ c) → s ≡ chunk 1 16 (c ++ y ∷ z) → p ++ (q ++ s) ≡ drop 1 (a ++ (b ++ c)) ++ y ∷ []
three_from_second [] b c z p q s y la lb lc ep eq es = absurd (omega arith)
three_from_second (d ∷ a) [] c z p q s y la lb lc ep eq es = absurd (omega arith)
three_from_second (d ∷ a) (e ∷ b) [] z p q s y la lb lc ep eq es = absurd (omega arith)
three_from_second (d ∷ a) (e ∷ b) (f ∷ c) z p q s y la lb lc ep eq es =
    ap₂ (λ (t u : List ℕ). t ++ u) (ep ∙ one_on_is d e a b la)
    (ap₂ (λ (t u : List ℕ). t ++ u) (eq ∙ one_on_is e f b c lb) (es ∙ one_on_is f y c z lc))
    ∙ append_assoc a (e ∷ []) ((b ++ f ∷ []) ++ (c ++ y ∷ []))
    ∙ ap (λ (t : List ℕ). a ++ e ∷ t) (append_assoc b (f ∷ []) (c ++ y ∷ []))
    ∙ ap (λ (t : List ℕ). a ++ t) (sym (append_assoc (e ∷ b) (f ∷ c) (y ∷ [])))
    ∙ sym (append_assoc a ((e ∷ b) ++ (f ∷ c)) (y ∷ []))

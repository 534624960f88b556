-- A register of sixteen bits that takes eight bytes at once, by a remainder of the table for each.
use Rattle.std.proofs.Common.{◌≡◌, ℕ, zero, suc, ◌+◌, ◌*◌, ◌/◌, ◌%◌, ◌^◌, ◌<◌, ◌≤◌, Bool, true, false, List, [], ◌∷◌, ◌++◌, length, map, take, drop, get_or, nat_eq, refl, sym, ◌∙◌, ap, ap₂, arith, append_assoc, length-append, bit_xor}
use Rattle.std.proofs.lemmas.List.{append-nil, drop_more, length-replicate}
use Rattle.std.proofs.lemmas.List.FromFn.{get_or-map-range_with_len}
use Rattle.std.proofs.lemmas.Nat.{pow-add}
use Rattle.std.proofs.Math.Nat.{div-div-eq-div-mul}
use Rattle.std.specs.List.{range_with_len}
use Rattle.drm_bits.specs.Bits.{value, digits, bits_of}
use Rattle.drm_bits.specs.Crc.{plus, sum, zeros, times, complement}
use Rattle.drm_bits.specs.declared.remainders.TheConstants.{REMAINDERS}
use Rattle.drm_bits.proofs.BitsLemmas.{length-digits, length-bits_of}
use Rattle.drm_bits.proofs.DigitsLemmas.{digits-mod, digits-value, digits-xor}
use Rattle.drm_bits.proofs.Polynomials.{sum_pairs, sum-append, sum-zeros, sum_comm, length-sum, times-sum}
use Rattle.drm_bits.proofs.Registers.{step, run, length-step, length-run, run-append, run_at_once}

step_pairs : (low a b : List Bool) (x y : Bool) → length a ≡ length low → length b ≡ length low → sum (step low a x) (step low b y) ≡ step low (sum a b) (plus x y)
step_pairs low [] [] x y size_a size_b = refl
step_pairs low [] (u ∷ b) x y size_a size_b = absurd (omega (arith, size_a, size_b))
step_pairs low (t ∷ a) [] x y size_a size_b = absurd (omega (arith, size_a, size_b))
step_pairs low (t ∷ a) (u ∷ b) x y size_a size_b =
    let last : List Bool = false ∷ [] in
    let same : length a ≡ length b = omega (arith, size_a, size_b) in
    sum_pairs (a ++ last) (times (plus t x) low) (b ++ last) (times (plus u y) low)
    ∙ ap₂ sum (sum-append a b last last same) (times-sum (plus t x) (plus u y) low ∙ ap (λ c. times c low) (four t x u y))
  where
    four : (t x u y : Bool) → plus (plus t x) (plus u y) ≡ plus (plus t u) (plus x y)
    four true true true true = refl
    four true true true false = refl
    four true true false true = refl
    four true true false false = refl
    four true false true true = refl
    four true false true false = refl
    four true false false true = refl
    four true false false false = refl
    four false true true true = refl
    four false true true false = refl
    four false true false true = refl
    four false true false false = refl
    four false false true true = refl
    four false false true false = refl
    four false false false true = refl
    four false false false false = refl

-- What is left of a sum is the sum of what is left of each.
pub run_pairs : (low a b p q : List Bool) → length a ≡ length low → length b ≡ length low → length p ≡ length q → sum (run low a p) (run low b q) ≡ run low (sum a b) (sum p q)
run_pairs low a b [] [] size_a size_b same = refl
run_pairs low a b [] (y ∷ q) size_a size_b same = absurd (omega (arith, same))
run_pairs low a b (x ∷ p) [] size_a size_b same = absurd (omega (arith, same))
run_pairs low a b (x ∷ p) (y ∷ q) size_a size_b same =
    run_pairs low (step low a x) (step low b y) p q (length-step low a x size_a) (length-step low b y size_b) (omega (arith, same))
    ∙ ap (λ l. run low l (sum p q)) (step_pairs low a b x y size_a size_b)

-- What is left of the front with zeros behind it, and what is left of the rest alone, make what is left of both.
run_parts : (low a front back : List Bool) → length a ≡ length low
    → run low a (front ++ back) ≡ sum (run low a (front ++ zeros (length back))) (run low (zeros (length low)) back)
run_parts low a front back size =
    let n : ℕ = length back in
    let z : List Bool = zeros (length low) in
    let r : List Bool = run low a front in
    let size_r : length r ≡ length low = length-run low a front size in
    let size_z : length z ≡ length low = length-replicate (length low) false in
    run-append low a front back
    ∙ (sym (run_pairs low r z (zeros n) back size_r size_z (length-replicate n false)
    ∙ ap₂ (run low) (sum-zeros r (length low) size_r) (sum_comm (zeros n) back ∙ sum-zeros back n refl))
    ∙ ap (λ l. sum l (run low z back)) (sym (run-append low a front (zeros n))))

-- As many bits as the register has may be added to it before.
run_added : (low a bits : List Bool) → length a ≡ length low → length bits ≡ length low → run low a bits ≡ run low (zeros (length low)) (sum a bits)
run_added low a bits size_a size_b =
    let z : List Bool = zeros (length low) in
    let n : ℕ = length bits in
    let size_z : length z ≡ length low = length-replicate (length low) false in
    let both : List Bool = sum a bits in
    let size_sum : length both ≡ n = length-sum a bits (size_a ∙ sym size_b) ∙ (size_a ∙ sym size_b) in
    run_at_once low a bits 0 size_a (omega (arith, size_a, size_b))
    ∙ (ap (λ l. run low (sum a l) (zeros n)) (append-nil bits)
    ∙ sym (run_at_once low z both 0 size_z (omega (arith, size_z, size_sum, size_b))
    ∙ (ap (λ l. run low (sum z l) (zeros (length both))) (append-nil both)
    ∙ ap₂ (λ l k. run low l (zeros k)) (sum_comm z both ∙ sum-zeros both (length low) (size_sum ∙ size_b)) size_sum)))

-- the polynomial, and a register of zeros
abbrev pub low : List Bool
low = digits 16 4129

abbrev pub none : List Bool
none = zeros 16

-- what is left of a byte with so many zero bytes behind it
abbrev pub left_of : ℕ → ℕ → List Bool
left_of k byte = run low none (digits 8 byte ++ zeros (8 * k))

wide : length low ≡ 16
wide = length-digits 16 4129

-- the sum of what is left of each byte, from the last on
abbrev sums : List ℕ → List Bool
sums [] = none
sums (byte ∷ bytes) = sum (sums bytes) (left_of (length bytes) byte)

size_left : (k byte : ℕ) → length (left_of k byte) ≡ 16
size_left k byte = length-run low none (digits 8 byte ++ zeros (8 * k)) (sym wide) ∙ wide

left_of_all : (bytes : List ℕ) → sums bytes ≡ run low none (bits_of bytes)
left_of_all [] = refl
left_of_all (byte ∷ bytes) =
    let one : List Bool = left_of (length bytes) byte in
    ap (λ l. sum l one) (left_of_all bytes)
    ∙ (sum_comm (run low none (bits_of bytes)) one
    ∙ sym (run_parts low none (digits 8 byte) (bits_of bytes) (sym wide)
    ∙ ap₂ (λ n m. sum (run low none (digits 8 byte ++ zeros n)) (run low (zeros m) (bits_of bytes))) (length-bits_of bytes) wide))

remainders_are : REMAINDERS ≡ map (λ i. value (run (digits 16 4129) (zeros 16) (digits 8 (i % 256) ++ zeros (8 * (i / 256))))) (range_with_len 0 2048)
unfolding digits
remainders_are = refl

-- A row of the table holds what is left of each byte.
pub row_at : (k byte : ℕ) → k < 8 → byte < 256 → digits 16 (get_or REMAINDERS (256 * k + byte) 0) ≡ left_of k byte
row_at k byte few small =
    let f : ℕ → ℕ = λ i. value (run (digits 16 4129) (zeros 16) (digits 8 (i % 256) ++ zeros (8 * (i / 256)))) in
    let i : ℕ = 256 * k + byte in
    let is_row : i / 256 ≡ k = omega (arith, small) in
    let is_byte : i % 256 ≡ byte = omega (arith, small) in
    ap (λ (l : List ℕ). digits 16 (get_or l i 0)) remainders_are
    ∙ (ap (digits 16) (get_or-map-range_with_len f 0 2048 i i 0 (omega (arith, few, small)) (omega arith)
    ∙ ap₂ (λ r b. value (left_of r b)) is_row is_byte)
    ∙ digits-value 16 (left_of k byte) (size_left k byte))

-- a number's digits in two parts
pub digits-parts : (k w n : ℕ) → digits (k + w) n ≡ digits k (n / 2 ^ w) ++ digits w n
unfolding digits
digits-parts zero w n = ap (λ (m : ℕ). digits m n) (let e : 0 + w ≡ w = omega arith in e)
digits-parts (suc k) w n =
    let turned : k + w ≡ w + k = omega arith in
    ap (λ (m : ℕ). digits m n) (let e : suc k + w ≡ suc (k + w) = omega arith in e)
    ∙ ap₂ (λ (q : ℕ) (l : List Bool). nat_eq (q % 2) 1 ∷ l)
    (ap (λ (e : ℕ). n / 2 ^ e) turned ∙ (ap (λ (p : ℕ). n / p) (pow-add 2 w k) ∙ sym (div-div-eq-div-mul n (2 ^ w) (2 ^ k))))
    (digits-parts k w n)

digits-split : (n : ℕ) → digits 16 n ≡ digits 8 (n / 256) ++ digits 8 (n % 256)
digits-split n = digits-parts 8 8 n ∙ ap (λ l. digits 8 (n / 256) ++ l) (sym (digits-mod 8 8 n (omega arith)))

one_more : (n x : ℕ) (l m : List Bool) → digits 16 n ≡ l → digits 16 x ≡ m → digits 16 (bit_xor n x) ≡ sum l m
one_more n x l m is_l is_m = digits-xor 16 n x ∙ ap₂ sum is_l is_m

-- The register takes eight bytes: the first two are added to it before.
pub eight_taken : (before front b0 b1 b2 b3 b4 b5 b6 b7 x0 x1 x2 x3 x4 x5 x6 x7 : ℕ)
    → front ≡ bit_xor before (256 * b0 + b1) → front < 2 ^ 16 → b1 < 256 → b2 < 256 → b3 < 256 → b4 < 256 → b5 < 256 → b6 < 256 → b7 < 256
    → x7 ≡ get_or REMAINDERS (256 * 0 + b7) 0 → x6 ≡ get_or REMAINDERS (256 * 1 + b6) 0 → x5 ≡ get_or REMAINDERS (256 * 2 + b5) 0
    → x4 ≡ get_or REMAINDERS (256 * 3 + b4) 0 → x3 ≡ get_or REMAINDERS (256 * 4 + b3) 0 → x2 ≡ get_or REMAINDERS (256 * 5 + b2) 0
    → x1 ≡ get_or REMAINDERS (256 * 6 + front % 256) 0 → x0 ≡ get_or REMAINDERS (256 * 7 + front / 256) 0
    → digits 16 (bit_xor (bit_xor (bit_xor (bit_xor (bit_xor (bit_xor (bit_xor x7 x6) x5) x4) x3) x2) x1) x0)
    ≡ run low (digits 16 before) (bits_of (b0 ∷ b1 ∷ b2 ∷ b3 ∷ b4 ∷ b5 ∷ b6 ∷ b7 ∷ []))
eight_taken before front b0 b1 b2 b3 b4 b5 b6 b7 x0 x1 x2 x3 x4 x5 x6 x7 is_front small small1 small2 small3 small4 small5 small6 small7 is7 is6 is5 is4 is3 is2 is1 is0 =
    let e0 : ℕ = front / 256 in
    let e1 : ℕ = front % 256 in
    let others : List Bool = bits_of (b2 ∷ b3 ∷ b4 ∷ b5 ∷ b6 ∷ b7 ∷ []) in
    let two : List Bool = digits 8 b0 ++ digits 8 b1 in
    let register : List Bool = digits 16 before in
    let of_row : (k byte x : ℕ) → k < 8 → byte < 256 → x ≡ get_or REMAINDERS (256 * k + byte) 0 → digits 16 x ≡ left_of k byte =
    λ k byte x few below is. ap (digits 16) is ∙ row_at k byte few below in
    let first : digits 16 (256 * b0 + b1) ≡ two =
    digits-split (256 * b0 + b1)
    ∙ ap₂ (λ m n. digits 8 m ++ digits 8 n) (omega (arith, small1)) (omega (arith, small1)) in
    let added : sum register two ≡ digits 8 e0 ++ digits 8 e1 =
    sym (ap (digits 16) is_front ∙ (digits-xor 16 before (256 * b0 + b1) ∙ ap (sum register) first)) ∙ digits-split front in
    let size_before : length register ≡ length low = length-digits 16 before ∙ sym wide in
    let size_two : length two ≡ length low = omega (arith, length-append (digits 8 b0) (digits 8 b1), length-digits 8 b0, length-digits 8 b1, wide) in
    let taken : run low none (bits_of (e0 ∷ e1 ∷ b2 ∷ b3 ∷ b4 ∷ b5 ∷ b6 ∷ b7 ∷ [])) ≡ run low register (digits 8 b0 ++ (digits 8 b1 ++ others)) =
    sym (ap (run low register) (sym (append_assoc (digits 8 b0) (digits 8 b1) others))
    ∙ (run-append low register two others
    ∙ (ap (λ l. run low l others) (run_added low register two size_before size_two ∙ ap₂ (λ n l. run low (zeros n) l) wide added)
    ∙ (sym (run-append low none (digits 8 e0 ++ digits 8 e1) others)
    ∙ ap (run low none) (append_assoc (digits 8 e0) (digits 8 e1) others))))) in
    let last : digits 16 x7 ≡ sum none (left_of 0 b7) =
    of_row 0 b7 x7 (omega arith) small7 is7 ∙ sym (sum_comm none (left_of 0 b7) ∙ sum-zeros (left_of 0 b7) 16 (size_left 0 b7)) in
    one_more _ x0 _ (left_of 7 e0)
    (one_more _ x1 _ (left_of 6 e1)
    (one_more _ x2 _ (left_of 5 b2)
    (one_more _ x3 _ (left_of 4 b3)
    (one_more _ x4 _ (left_of 3 b4)
    (one_more _ x5 _ (left_of 2 b5)
    (one_more x7 x6 _ (left_of 1 b6) last (of_row 1 b6 x6 (omega arith) small6 is6))
    (of_row 2 b5 x5 (omega arith) small5 is5))
    (of_row 3 b4 x4 (omega arith) small4 is4))
    (of_row 4 b3 x3 (omega arith) small3 is3))
    (of_row 5 b2 x2 (omega arith) small2 is2))
    (of_row 6 e1 x1 (omega arith) (omega arith) is1))
    (of_row 7 e0 x0 (omega arith) (omega (arith, small)) is0)
    ∙ (left_of_all (e0 ∷ e1 ∷ b2 ∷ b3 ∷ b4 ∷ b5 ∷ b6 ∷ b7 ∷ [])
    ∙ taken)

-- the next of the items from a place on
next : (n k at : ℕ) (bytes : List ℕ) → at + k < length bytes → take (suc n) (drop (at + k) bytes) ≡ get_or bytes (at + k) 0 ∷ take n (drop (at + (k + 1)) bytes)
next n k at bytes within =
    ap (take (suc n)) (drop_more bytes (at + k) 0 within)
    ∙ ap (λ (i : ℕ). get_or bytes (at + k) 0 ∷ take n (drop i bytes)) (let e : at + k + 1 ≡ at + (k + 1) = omega arith in e)

-- Eight items from a place on, one by one.
pub eight_from : (at : ℕ) (bytes : List ℕ) → at + 8 ≤ length bytes
    → take 8 (drop at bytes) ≡ get_or bytes at 0 ∷ get_or bytes (at + 1) 0 ∷ get_or bytes (at + 2) 0 ∷ get_or bytes (at + 3) 0
    ∷ get_or bytes (at + 4) 0 ∷ get_or bytes (at + 5) 0 ∷ get_or bytes (at + 6) 0 ∷ get_or bytes (at + 7) 0 ∷ []
eight_from at bytes fits =
    let put : ℕ → List ℕ → List ℕ = λ k l. get_or bytes (at + k) 0 ∷ l in
    ap (take 8) (drop_more bytes at 0 (omega (arith, fits)))
    ∙ ap (λ l. get_or bytes at 0 ∷ l) (next 6 1 at bytes (omega (arith, fits))
    ∙ ap (put 1) (next 5 2 at bytes (omega (arith, fits))
    ∙ ap (put 2) (next 4 3 at bytes (omega (arith, fits))
    ∙ ap (put 3) (next 3 4 at bytes (omega (arith, fits))
    ∙ ap (put 4) (next 2 5 at bytes (omega (arith, fits))
    ∙ ap (put 5) (next 1 6 at bytes (omega (arith, fits))
    ∙ ap (put 6) (next 0 7 at bytes (omega (arith, fits)))))))))

-- the register of ones
pub register_of_nothing : complement (digits 16 65535) ≡ digits 16 0
unfolding digits
register_of_nothing = refl

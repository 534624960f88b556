-- The laws of polynomials over the field.
use Rattle.std.proofs.Common.{[], List, ap, ap₂, arith, bit_xor, get_or, length, refl, suc, sym, zero, ℕ, ◌<◌, ◌∙◌, ◌∷◌, ◌≡◌, ◌≤◌}
use Rattle.std.proofs.lemmas.Nat.{xor_comm, xor_of_8}
use Rattle.std.specs.Int.Bits.{xor_assoc, xor_zero_r}
use Rattle.gf_field.proofs.Polynomial.{xor_four}
use Rattle.gf_field.proofs.Times.{one_times, times-lt, times_assoc, times_comm, times_xor, times_zero, xor_times, zero_times}
use Rattle.gf_field.specs.Field.{times}
use Rattle.rs_erase.specs.Code.{AreElements}
use Rattle.rs_erase.specs.Polynomial.{add, mul, scale, value}
use Rattle.rs_erase.proofs.Elements.{cons_elements, elements_head, elements_tail, no_elements}

pub value_add : (x : ℕ) (p q : List ℕ) → value x (add p q) ≡ bit_xor (value x p) (value x q)
value_add x [] q = refl
value_add x (a ∷ p) [] = sym (xor_zero_r (value x (a ∷ p)))
value_add x (a ∷ p) (b ∷ q) =
    ap (λ (v : ℕ). bit_xor (bit_xor a b) (times x v)) (value_add x p q)
    ∙ ap (bit_xor (bit_xor a b)) (times_xor x (value x p) (value x q))
    ∙ xor_four a b (times x (value x p)) (times x (value x q))

pub value_scale : (x a : ℕ) (q : List ℕ) → value x (scale a q) ≡ times a (value x q)
value_scale x a [] = sym (times_zero a)
value_scale x a (b ∷ q) =
    ap (λ (v : ℕ). bit_xor (times a b) (times x v)) (value_scale x a q)
    ∙ ap (bit_xor (times a b)) (sym (times_assoc x a (value x q)) ∙ ap (λ (v : ℕ). times v (value x q)) (times_comm x a) ∙ times_assoc a x (value x q))
    ∙ sym (times_xor a b (times x (value x q)))

pub value_mul : (x : ℕ) (p q : List ℕ) → value x (mul p q) ≡ times (value x p) (value x q)
value_mul x [] q = sym (zero_times (value x q))
value_mul x (a ∷ p) q =
    value_add x (scale a q) (0 ∷ mul p q)
    ∙ ap₂ bit_xor (value_scale x a q) (ap (times x) (value_mul x p q) ∙ sym (times_assoc x (value x p) (value x q)))
    ∙ sym (xor_times a (times x (value x p)) (value x q))

pub value-lt : (r a : ℕ) (p : List ℕ) → a < 256 → value r (a ∷ p) < 256
value-lt r a p lt = xor_of_8 a (times r (value r p)) lt (times-lt r (value r p))

pub value_elements-lt : (r : ℕ) (p : List ℕ) → AreElements p → value r p < 256
value_elements-lt r [] h = omega arith
value_elements-lt r (a ∷ p) h = value-lt r a p (elements_head a p h)

pub add_nil : (p : List ℕ) → add p [] ≡ p
add_nil [] = refl
add_nil (a ∷ p) = refl

pub add_comm : (p q : List ℕ) → add p q ≡ add q p
add_comm [] q = sym (add_nil q)
add_comm (a ∷ p) [] = refl
add_comm (a ∷ p) (b ∷ q) = ap₂ (λ (x : ℕ) (xs : List ℕ). x ∷ xs) (xor_comm a b) (add_comm p q)

pub add_assoc : (p q r : List ℕ) → add (add p q) r ≡ add p (add q r)
add_assoc [] q r = refl
add_assoc (a ∷ p) [] r = refl
add_assoc (a ∷ p) (b ∷ q) [] = refl
add_assoc (a ∷ p) (b ∷ q) (c ∷ r) = ap₂ (λ (x : ℕ) (xs : List ℕ). x ∷ xs) (xor_assoc a b c) (add_assoc p q r)

pub add_four : (p q r s : List ℕ) → add (add p q) (add r s) ≡ add (add p r) (add q s)
add_four p q r s =
    add_assoc p q (add r s) ∙ ap (add p) (sym (add_assoc q r s) ∙ ap (λ (x : List ℕ). add x s) (add_comm q r) ∙ add_assoc r q s) ∙ sym (add_assoc p r (add q s))

pub scale_add : (a : ℕ) (p q : List ℕ) → scale a (add p q) ≡ add (scale a p) (scale a q)
scale_add a [] q = refl
scale_add a (b ∷ p) [] = refl
scale_add a (b ∷ p) (c ∷ q) = ap₂ (λ (x : ℕ) (xs : List ℕ). x ∷ xs) (times_xor a b c) (scale_add a p q)

pub xor_scale : (a b : ℕ) (r : List ℕ) → scale (bit_xor a b) r ≡ add (scale a r) (scale b r)
xor_scale a b [] = refl
xor_scale a b (c ∷ r) = ap₂ (λ (x : ℕ) (xs : List ℕ). x ∷ xs) (xor_times a b c) (xor_scale a b r)

pub scale_scale : (a b : ℕ) (r : List ℕ) → scale a (scale b r) ≡ scale (times a b) r
scale_scale a b [] = refl
scale_scale a b (c ∷ r) = ap₂ (λ (x : ℕ) (xs : List ℕ). x ∷ xs) (sym (times_assoc a b c)) (scale_scale a b r)

pub add_mul : (p q r : List ℕ) → mul (add p q) r ≡ add (mul p r) (mul q r)
add_mul [] q r = refl
add_mul (a ∷ p) [] r = sym (add_nil (mul (a ∷ p) r))
add_mul (a ∷ p) (b ∷ q) r =
    ap₂ add (xor_scale a b r) (ap (λ (m : List ℕ). 0 ∷ m) (add_mul p q r)) ∙ add_four (scale a r) (scale b r) (0 ∷ mul p r) (0 ∷ mul q r)

pub scale_mul : (a : ℕ) (p r : List ℕ) → scale a (mul p r) ≡ mul (scale a p) r
scale_mul a [] r = refl
scale_mul a (b ∷ p) r =
    scale_add a (scale b r) (0 ∷ mul p r)
    ∙ ap₂ add (scale_scale a b r) (ap₂ (λ (x : ℕ) (xs : List ℕ). x ∷ xs) (times_zero a) (scale_mul a p r))

pub length-scale : (a : ℕ) (r : List ℕ) → length (scale a r) ≡ length r
length-scale a [] = refl
length-scale a (c ∷ r) = omega (arith, length-scale a r)

pub length-add : (p q : List ℕ) → length p ≤ length (add p q)
length-add [] q = omega arith
length-add (a ∷ p) [] = omega arith
length-add (a ∷ p) (b ∷ q) = omega (arith, length-add p q)

pub length-mul : (q r : List ℕ) → 0 < length q → length r ≤ length (mul q r)
length-mul [] r pos = absurd (omega arith)
length-mul (c ∷ q) r pos = omega (arith, length-scale c r, length-add (scale c r) (0 ∷ mul q r))

pub add_zeros : (x r : List ℕ) → length r ≤ length x → add x (scale 0 r) ≡ x
add_zeros [] [] le = refl
add_zeros [] (c ∷ r) le = absurd (omega arith)
add_zeros (a ∷ x) [] le = refl
add_zeros (a ∷ x) (c ∷ r) le = ap₂ (λ (y : ℕ) (ys : List ℕ). y ∷ ys) (ap (bit_xor a) (zero_times c) ∙ xor_zero_r a) (add_zeros x r (omega arith))

pub mul_assoc : (p q r : List ℕ) → 0 < length q → mul (mul p q) r ≡ mul p (mul q r)
mul_assoc [] q r pos = refl
mul_assoc (a ∷ p) q r pos =
    let m = mul q r in
    add_mul (scale a q) (0 ∷ mul p q) r
    ∙ ap₂ add (sym (scale_mul a q r)) (ap (λ (x : List ℕ). add (scale 0 r) (0 ∷ x)) (mul_assoc p q r pos))
    ∙ sym (add_assoc (scale a m) (scale 0 r) (0 ∷ mul p m))
    ∙ ap (λ (x : List ℕ). add x (0 ∷ mul p m)) (add_zeros (scale a m) r (omega (arith, length-scale a m, length-mul q r pos)))

pub one_mul_all : (q : List ℕ) → AreElements q → add (scale 1 q) [] ≡ q
one_mul_all [] h = refl
one_mul_all (c ∷ q) h = ap₂ (λ (x : ℕ) (xs : List ℕ). x ∷ xs) (one_times c (elements_head c q h)) (scale_one q (elements_tail c q h))
  where
    scale_one : (q : List ℕ) → AreElements q → scale 1 q ≡ q
    scale_one [] h = refl
    scale_one (c ∷ q) h = ap₂ (λ (x : ℕ) (xs : List ℕ). x ∷ xs) (one_times c (elements_head c q h)) (scale_one q (elements_tail c q h))

pub one_mul : (c : ℕ) (p : List ℕ) → AreElements (c ∷ p) → mul (1 ∷ []) (c ∷ p) ≡ c ∷ p
one_mul c p h = ap₂ (λ (x : ℕ) (xs : List ℕ). x ∷ xs) (xor_zero_r (times 1 c) ∙ one_times c (elements_head c p h)) (one_mul_all p (elements_tail c p h))

pub scale_elements : (a : ℕ) (q : List ℕ) → AreElements (scale a q)
scale_elements a [] = no_elements
scale_elements a (b ∷ q) = cons_elements (times a b) (scale a q) (times-lt a b) (scale_elements a q)

pub add_elements : (p q : List ℕ) → AreElements p → AreElements q → AreElements (add p q)
add_elements [] q hp hq = hq
add_elements (a ∷ p) [] hp hq = hp
add_elements (a ∷ p) (b ∷ q) hp hq =
    cons_elements (bit_xor a b) (add p q) (xor_of_8 a b (elements_head a p hp) (elements_head b q hq)) (add_elements p q (elements_tail a p hp) (elements_tail b q hq))

pub mul_elements : (p q : List ℕ) → AreElements (mul p q)
mul_elements [] q = no_elements
mul_elements (a ∷ p) q = add_elements (scale a q) (0 ∷ mul p q) (scale_elements a q) (cons_elements 0 (mul p q) (omega arith) (mul_elements p q))

pub get_or_add : (a b : List ℕ) (j : ℕ) → j < length a → j < length b → get_or (add a b) j 0 ≡ bit_xor (get_or a j 0) (get_or b j 0)
get_or_add [] b j la lb = absurd (omega arith)
get_or_add (x ∷ a) [] j la lb = absurd (omega arith)
get_or_add (x ∷ a) (y ∷ b) zero la lb = refl
get_or_add (x ∷ a) (y ∷ b) (suc j) la lb = get_or_add a b j (omega arith) (omega arith)

pub get_or_scale : (f : ℕ) (q : List ℕ) (j : ℕ) → j < length q → get_or (scale f q) j 0 ≡ times f (get_or q j 0)
get_or_scale f [] j lt = absurd (omega arith)
get_or_scale f (y ∷ q) zero lt = refl
get_or_scale f (y ∷ q) (suc j) lt = get_or_scale f q j (omega arith)

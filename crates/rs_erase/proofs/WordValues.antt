-- The value of a word, from its first element on.
use Rattle.std.proofs.Common.{[], List, ap, ap₂, arith, bit_xor, get_or, length, length-append, refl, replicate, reverse, slice_set, suc, sym, take, zero, ℕ, ◌*◌, ◌++◌, ◌+◌, ◌-◌, ◌^◌, ◌<◌, ◌∙◌, ◌∷◌, ◌≡◌}
use Rattle.std.proofs.Math.ListN.{length-set}
use Rattle.std.proofs.lemmas.Grind.{reverse_onto}
use Rattle.std.proofs.lemmas.List.{length-reverse, take_more}
use Rattle.std.proofs.lemmas.Nat.{xor_comm, xor_lt}
use Rattle.std.specs.Int.Bits.{xor_assoc, xor_self, xor_zero_l, xor_zero_r}
use Rattle.gf_field.proofs.Polynomial.{xor_four}
use Rattle.gf_field.proofs.Powers.{power_add}
use Rattle.gf_field.proofs.Times.{one_times, times-lt, times_assoc, times_one, times_xor, times_zero, xor_times, zero_times}
use Rattle.gf_field.specs.Field.{power, times}
use Rattle.rs_erase.specs.Code.{AreElements}
use Rattle.rs_erase.specs.Equations.{nth_power, word_value}
use Rattle.rs_erase.specs.Polynomial.{add, scale, value}
use Rattle.rs_erase.proofs.Elements.{elements_head, elements_tail}
use Rattle.rs_erase.proofs.OnePlaceLess.{swap}
use Rattle.rs_erase.proofs.PolynomialLaws.{length-scale}

pub nth_power_power : (a b : ℕ) → nth_power (power a) b ≡ power (a * b)
unfolding power
nth_power_power a zero = ap power (let e : 0 ≡ a * 0 = omega arith in e)
nth_power_power a (suc b) =
    ap (times (power a)) (nth_power_power a b) ∙ sym (power_add a (a * b)) ∙ ap power (let e : a + a * b ≡ a * suc b = omega arith in e)

pub nth_power_swap : (a b : ℕ) → nth_power (power a) b ≡ nth_power (power b) a
nth_power_swap a b = nth_power_power a b ∙ ap power (let e : a * b ≡ b * a = omega arith in e) ∙ sym (nth_power_power b a)

pub nth_power-lt : (x j : ℕ) → nth_power x j < 256
nth_power-lt x zero = omega arith
nth_power-lt x (suc j) = times-lt x (nth_power x j)

pub nth_power_add : (x m n : ℕ) → nth_power x (m + n) ≡ times (nth_power x m) (nth_power x n)
nth_power_add x zero n = ap (nth_power x) (let e : 0 + n ≡ n = omega arith in e) ∙ sym (one_times (nth_power x n) (nth_power-lt x n))
nth_power_add x (suc m) n =
    ap (nth_power x) (let e : suc m + n ≡ suc (m + n) = omega arith in e) ∙ ap (times x) (nth_power_add x m n)
    ∙ sym (times_assoc x (nth_power x m) (nth_power x n))

pub value_snoc : (x a : ℕ) (p : List ℕ) → a < 256 → value x (p ++ a ∷ []) ≡ bit_xor (value x p) (times a (nth_power x (length p)))
value_snoc x a [] la = ap (bit_xor a) (times_zero x) ∙ xor_zero_r a ∙ sym (times_one a la) ∙ sym (xor_zero_l (times a 1))
value_snoc x a (b ∷ p) la =
    let r = nth_power x (length p) in
    ap (λ (v : ℕ). bit_xor b (times x v)) (value_snoc x a p la)
    ∙ ap (bit_xor b) (times_xor x (value x p) (times a r) ∙ ap (bit_xor (times x (value x p))) (swap x a r))
    ∙ sym (xor_assoc b (times x (value x p)) (times a (times x r)))
    ∙ ap (λ (n : ℕ). bit_xor (bit_xor b (times x (value x p))) (times a (nth_power x n))) (let e : suc (length p) ≡ length (b ∷ p) = omega arith in e)

pub value-reverse : (x : ℕ) (w : List ℕ) → AreElements w → value x (reverse w) ≡ word_value x w
value-reverse x [] h = refl
value-reverse x (a ∷ w) h =
    ap (value x) (reverse_onto w a []) ∙ value_snoc x a (reverse w) (elements_head a w h)
    ∙ ap₂ bit_xor (value-reverse x w (elements_tail a w h)) (ap (λ (n : ℕ). times a (nth_power x n)) (length-reverse w))

-- one element changed
pub word_value_set : (x : ℕ) (w : List ℕ) (k b : ℕ) → k < length w
    → word_value x (slice_set w k b) ≡ bit_xor (word_value x w) (times (bit_xor (get_or w k 0) b) (nth_power x (length w - suc k)))
word_value_set x [] k b lt = absurd (omega arith)
word_value_set x (a ∷ w) zero b lt =
    let r = nth_power x (length w) in
    let v = word_value x w in
    ap (bit_xor v) (sym (ap (λ (m : ℕ). bit_xor m (times b r)) (xor_self (times a r)) ∙ xor_zero_l (times b r))
    ∙ xor_assoc (times a r) (times a r) (times b r) ∙ ap (bit_xor (times a r)) (sym (xor_times a b r)))
    ∙ sym (xor_assoc v (times a r) (times (bit_xor a b) r))
    ∙ ap (λ (n : ℕ). bit_xor (bit_xor v (times a r)) (times (bit_xor a b) (nth_power x n))) (let e : length w ≡ length (a ∷ w) - suc 0 = omega arith in e)
word_value_set x (a ∷ w) (suc k) b lt =
    let v = word_value x w in
    let d = times (bit_xor (get_or w k 0) b) (nth_power x (length w - suc k)) in
    let t = times a (nth_power x (length w)) in
    ap₂ bit_xor (word_value_set x w k b (omega arith)) (ap (λ (n : ℕ). times a (nth_power x n)) (length-set w k b))
    ∙ xor_assoc v d t ∙ ap (bit_xor v) (xor_comm d t) ∙ sym (xor_assoc v t d)
    ∙ ap (λ (n : ℕ). bit_xor (bit_xor v t) (times (bit_xor (get_or w k 0) b) (nth_power x n))) (let e : length w - suc k ≡ length (a ∷ w) - suc (suc k) = omega arith in e)

pub word_value_append : (x : ℕ) (a b : List ℕ) → word_value x (a ++ b) ≡ bit_xor (times (word_value x a) (nth_power x (length b))) (word_value x b)
word_value_append x [] b = sym (ap (λ (n : ℕ). bit_xor n (word_value x b)) (zero_times (nth_power x (length b))) ∙ xor_zero_l (word_value x b))
word_value_append x (c ∷ a) b =
    let v = times (word_value x a) (nth_power x (length b)) in
    let w = word_value x b in
    let t = times (times c (nth_power x (length a))) (nth_power x (length b)) in
    ap₂ bit_xor (word_value_append x a b)
    (ap (λ (n : ℕ). times c (nth_power x n)) (length-append a b) ∙ ap (times c) (nth_power_add x (length a) (length b)) ∙ sym (times_assoc c (nth_power x (length a)) (nth_power x (length b))))
    ∙ xor_assoc v w t ∙ ap (bit_xor v) (xor_comm w t) ∙ sym (xor_assoc v t w)
    ∙ ap (λ (n : ℕ). bit_xor n w) (sym (xor_times (word_value x a) (times c (nth_power x (length a))) (nth_power x (length b))))

pub length-add_same : (p q : List ℕ) → length p ≡ length q → length (add p q) ≡ length q
length-add_same [] q e = refl
length-add_same (a ∷ p) [] e = absurd (omega arith)
length-add_same (a ∷ p) (b ∷ q) e = let h = length-add_same p q (omega arith) in omega arith

pub word_value_add : (x : ℕ) (p q : List ℕ) → length p ≡ length q → word_value x (add p q) ≡ bit_xor (word_value x p) (word_value x q)
word_value_add x [] q e = sym (xor_zero_l (word_value x q))
word_value_add x (a ∷ p) [] e = absurd (omega arith)
word_value_add x (a ∷ p) (b ∷ q) e =
    let r = nth_power x (length q) in
    let e' : length p ≡ length q = omega arith in
    ap₂ bit_xor (word_value_add x p q e') (ap (λ (n : ℕ). times (bit_xor a b) (nth_power x n)) (length-add_same p q e') ∙ xor_times a b r)
    ∙ xor_four (word_value x p) (word_value x q) (times a r) (times b r)
    ∙ ap (λ (n : ℕ). bit_xor (bit_xor (word_value x p) (times a (nth_power x n))) (bit_xor (word_value x q) (times b r))) (sym e')

pub word_value_scale : (x a : ℕ) (q : List ℕ) → word_value x (scale a q) ≡ times a (word_value x q)
word_value_scale x a [] = sym (times_zero a)
word_value_scale x a (b ∷ q) =
    ap₂ bit_xor (word_value_scale x a q) (ap (λ (n : ℕ). times (times a b) (nth_power x n)) (length-scale a q) ∙ times_assoc a b (nth_power x (length q)))
    ∙ sym (times_xor a (word_value x q) (times b (nth_power x (length q))))

pub one_more : (x b : ℕ) (m : List ℕ) → word_value x (m ++ b ∷ []) ≡ bit_xor (times (word_value x m) (nth_power x 1)) (times b 1)
one_more x b m = word_value_append x m (b ∷ []) ∙ ap (bit_xor (times (word_value x m) (nth_power x 1))) (xor_zero_l (times b 1))

pub word_value_zeros : (x n : ℕ) → word_value x (replicate n 0) ≡ 0
word_value_zeros x zero = refl
word_value_zeros x (suc n) = ap₂ bit_xor (word_value_zeros x n) (zero_times (nth_power x (length (replicate n 0))))

-- the value of the symbols so far, and one more
pub more_symbols : (x f k r : ℕ) (u : List ℕ) → k < length u → f ≡ get_or u k 0
    → bit_xor (times (word_value x (take k u)) (nth_power x (r + 1))) (times f (nth_power x r)) ≡ times (word_value x (take (k + 1) u)) (nth_power x r)
more_symbols x f k r u lt hf =
    let t = word_value x (take k u) in let n = nth_power x r in
    let g = get_or u k 0 in
    let taken : word_value x (take (k + 1) u) ≡ bit_xor (times t (nth_power x 1)) (times g 1) =
    ap (word_value x) (take_more u k 0 lt) ∙ one_more x g (take k u) in
    let one : times (times t (nth_power x 1)) n ≡ times t (nth_power x (r + 1)) =
    times_assoc t (nth_power x 1) n ∙ ap (times t) (sym (nth_power_add x 1 r) ∙ ap (nth_power x) (let e : 1 + r ≡ r + 1 = omega arith in e)) in
    let two : times (times g 1) n ≡ times g n = times_assoc g 1 n ∙ ap (times g) (one_times n (nth_power-lt x r)) in
    sym (ap (λ (h : ℕ). times h n) taken ∙ xor_times (times t (nth_power x 1)) (times g 1) n ∙ ap₂ bit_xor one (two ∙ ap (λ (h : ℕ). times h n) (sym hf)))

pub word_value-lt : (x : ℕ) (w : List ℕ) → word_value x w < 2 ^ 8
word_value-lt x [] = omega arith
word_value-lt x (a ∷ w) = xor_lt 8 (word_value x w) (times a (nth_power x (length w))) (word_value-lt x w) (times-lt a (nth_power x (length w)))

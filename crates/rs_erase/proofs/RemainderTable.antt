-- What remains of single powers, one after another.
use Rattle.std.proofs.Common.{◌≡◌, ℕ, ◌+◌, ◌<◌, ◌≤◌, ◌==◌, ◌&&◌, zero, suc, Bool, true, false, List, [], ◌∷◌, ◌++◌, length, reverse, get_or, ltb, refl, sym, ap, ap₂, ◌∙◌, arith, bit_xor}
use Rattle.std.proofs.lemmas.Bool.{and_parts, eqb-true, false≢true, ltb-true}
use Rattle.std.proofs.lemmas.List.{length-append}
use Rattle.std.specs.Int.Bits.{xor_zero_r}
use lib.Lanes.{chunk}
use Rattle.gf_field.specs.Field.{power, times, polynomial_product, remainder}
use Rattle.gf_field.proofs.EachBelow.{each_at}
use Rattle.gf_field.proofs.Polynomial.{same_from_xor}
use Rattle.gf_field.proofs.Times.{one_times, times_comm, times_xor, zero_times}
use Rattle.rs_erase.specs.Code.{AreElements, generator}
use Rattle.rs_erase.specs.Equations.{nth_power, word_value}
use Rattle.rs_erase.specs.Polynomial.{add, scale, value}
use Rattle.rs_erase.specs.declared.multiples_51.TheConstants.{MULTIPLES_51}
use Rattle.rs_erase.proofs.Division.{generator_root}
use Rattle.rs_erase.proofs.Elements.{elements_each}
use Rattle.rs_erase.proofs.OnePlaceLess.{swap}
use Rattle.rs_erase.proofs.PolynomialLaws.{length-scale}
use Rattle.rs_erase.proofs.WordValues.{length-add_same, nth_power-lt, nth_power_add, one_more, value-reverse, word_value_add, word_value_scale}

-- two lists compared element by element, by which whole tables are compared
unfoldable pub same : List ℕ → List ℕ → Bool
same [] [] = true
same [] (y ∷ ys) = false
same (x ∷ xs) [] = false
same (x ∷ xs) (y ∷ ys) = (x == y) && same xs ys

pub same_is : (xs ys : List ℕ) → same xs ys ≡ true → xs ≡ ys
unfolding same
same_is [] [] h = refl
same_is [] (y ∷ ys) h = absurd (false≢true h)
same_is (x ∷ xs) [] h = absurd (false≢true h)
same_is (x ∷ xs) (y ∷ ys) h =
    let both = and_parts (x == y) (same xs ys) h in
    ap₂ (λ (z : ℕ) (zs : List ℕ). z ∷ zs) (eqb-true x y both.0) (same_is xs ys both.1)

-- the generator below its leading 1 is what remains of x to the 48: the last power's multiple by 1
abbrev GENERATOR : List ℕ
GENERATOR = chunk 4656 48 MULTIPLES_51.bytes

generator_is : generator 48 ≡ reverse (1 ∷ GENERATOR)
unfolding generator power times polynomial_product remainder
generator_is = refl

generator_elements : AreElements (1 ∷ GENERATOR)
generator_elements = elements_each (1 ∷ GENERATOR) (λ k lt. ltb-true _ _ (each_at 49 (λ k. ltb (get_or (1 ∷ GENERATOR) k 0) 256) refl k lt))

-- where a polynomial with a leading 1 has a root, the rest of it has the value of that leading term
rest_value : (x n : ℕ) (g : List ℕ) → length g ≡ n → word_value x (1 ∷ g) ≡ 0 → word_value x g ≡ nth_power x n
rest_value x n g e h =
    same_from_xor (word_value x g) (times 1 (nth_power x (length g))) h ∙ one_times (nth_power x (length g)) (nth_power-lt x (length g)) ∙ ap (nth_power x) e

generator_value : (j : ℕ) → 0 < j → j ≤ 48 → word_value (power j) GENERATOR ≡ nth_power (power j) 48
generator_value j pos le =
    rest_value (power j) 48 GENERATOR refl
    (sym (value-reverse (power j) (1 ∷ GENERATOR) generator_elements) ∙ ap (value (power j)) (sym generator_is) ∙ generator_root 48 j pos le)

-- what remains of a remainder times x
unfoldable pub next : List ℕ → List ℕ
next [] = []
next (r ∷ t) = add (t ++ 0 ∷ []) (scale r GENERATOR)

-- what remains of x to the 48 + n
unfoldable pub nexts : ℕ → List ℕ
nexts zero = GENERATOR
nexts (suc n) = next (nexts n)

length-next : (p : List ℕ) → length p ≡ 48 → length (next p) ≡ 48
unfolding next
length-next [] e = absurd (omega arith)
length-next (r ∷ t) e =
    let ls : length (scale r GENERATOR) ≡ 48 = length-scale r GENERATOR in
    length-add_same (t ++ 0 ∷ []) (scale r GENERATOR) (omega (arith, length-append t (0 ∷ []), ls)) ∙ ls

pub length-nexts : (n : ℕ) → length (nexts n) ≡ 48
unfolding nexts
length-nexts zero = refl
length-nexts (suc n) = length-next (nexts n) (length-nexts n)

next_value : (x : ℕ) (p : List ℕ) → length p ≡ 48 → word_value x GENERATOR ≡ nth_power x 48 → word_value x (next p) ≡ times (nth_power x 1) (word_value x p)
unfolding next
next_value x [] e hg = absurd (omega arith)
next_value x (r ∷ t) e hg =
    let y = nth_power x 1 in
    let ls : length (scale r GENERATOR) ≡ 48 = length-scale r GENERATOR in
    let lt : length t ≡ 47 = omega arith in
    let moved : word_value x (t ++ 0 ∷ []) ≡ times y (word_value x t) =
    one_more x 0 t ∙ ap (bit_xor (times (word_value x t) y)) (zero_times 1) ∙ xor_zero_r (times (word_value x t) y) ∙ times_comm (word_value x t) y in
    word_value_add x (t ++ 0 ∷ []) (scale r GENERATOR) (omega (arith, length-append t (0 ∷ []), ls))
    ∙ ap₂ bit_xor moved
    (word_value_scale x r GENERATOR ∙ ap (times r) (hg ∙ nth_power_add x 1 47) ∙ swap r y (nth_power x 47) ∙ ap (λ (k : ℕ). times y (times r (nth_power x k))) (sym lt))
    ∙ sym (times_xor y (word_value x t) (times r (nth_power x (length t))))

pub nexts_value : (j n : ℕ) → 0 < j → j ≤ 48 → word_value (power j) (nexts n) ≡ nth_power (power j) (48 + n)
unfolding nexts
nexts_value j zero pos le = generator_value j pos le ∙ ap (nth_power (power j)) (let e : 48 ≡ 48 + zero = omega arith in e)
nexts_value j (suc n) pos le =
    next_value (power j) (nexts n) (length-nexts n) (generator_value j pos le)
    ∙ ap (times (nth_power (power j) 1)) (nexts_value j n pos le)
    ∙ sym (nth_power_add (power j) 1 (48 + n))
    ∙ ap (nth_power (power j)) (let e : 1 + (48 + n) ≡ 48 + suc n = omega arith in e)

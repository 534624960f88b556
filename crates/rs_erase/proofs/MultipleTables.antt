-- The tables of multiples of what remains of single powers.
use Rattle.std.proofs.Common.{◌≡◌, ℕ, zero, suc, ◌+◌, ◌-◌, ◌*◌, ◌<◌, ◌≤◌, ◌&&◌, Bool, true, inl, inr, List, drop, length, take, refl, subst, sym, ap, ◌∙◌, arith}
use Rattle.std.proofs.lemmas.Bool.{and_parts, cases_lt}
use Rattle.std.proofs.lemmas.List.{drop-drop}
use lib.Lanes.{chunk}
use Rattle.gf_field.specs.Field.{power, times, polynomial_product, remainder}
use Rattle.gf_field.proofs.EachBelow.{each_at, each_below}
use Rattle.rs_erase.specs.Equations.{nth_power, word_value}
use Rattle.rs_erase.specs.Polynomial.{scale}
use Rattle.rs_erase.specs.Register.{AreMultiples, IsMultipleRemainder}
use Rattle.rs_erase.specs.declared.multiples_51.TheConstants.{MULTIPLES_51}
use Rattle.rs_erase.specs.declared.multiples_55.TheConstants.{MULTIPLES_55}
use Rattle.rs_erase.specs.declared.multiples_59.TheConstants.{MULTIPLES_59}
use Rattle.rs_erase.specs.declared.multiples_63.TheConstants.{MULTIPLES_63}
use Rattle.rs_erase.proofs.PolynomialLaws.{length-scale}
use Rattle.rs_erase.proofs.RemainderTable.{length-nexts, next, nexts, nexts_value, same, same_is}
use Rattle.rs_erase.proofs.WordValues.{word_value_scale}

-- the row of a power itself, its multiple by 1
one : List ℕ → ℕ → List ℕ
one table i = chunk (48 * (32 * i + 1)) 48 table

ones_are : ℕ → List ℕ → Bool
ones_are top table = each_below 4 (λ i. same (one table i) (nexts (top - i)))

-- so many rows are the multiples from the n-th on
rows_are : (ℕ → ℕ) → List ℕ → ℕ → ℕ → List ℕ → Bool
rows_are by power zero n rows = true
rows_are by power (suc left) n rows = same (take 48 rows) (scale (by n) power) && rows_are by power left (suc n) (drop 48 rows)

-- sixteen rows of each power, from one of its rows on
multiples_are : (ℕ → ℕ) → ℕ → List ℕ → Bool
multiples_are by from table = each_below 4 (λ i. rows_are by (one table i) 16 0 (drop (48 * (32 * i + from)) table))

one_is : (top : ℕ) (table : List ℕ) → ones_are top table ≡ true → (i : ℕ) → i < 4 → one table i ≡ nexts (top - i)
unfolding ones_are
one_is top table h i lt = same_is (one table i) (nexts (top - i)) (each_at 4 (λ i. same (one table i) (nexts (top - i))) h i lt)

rows_at : (by : ℕ → ℕ) (power : List ℕ) (left n : ℕ) (rows : List ℕ) → rows_are by power left n rows ≡ true → (k : ℕ) → k < left
    → take 48 (drop (48 * k) rows) ≡ scale (by (n + k)) power
unfolding rows_are
rows_at by power zero n rows h k lt = absurd (omega arith)
rows_at by power (suc left) n rows h k lt =
    let both = and_parts (same (take 48 rows) (scale (by n) power)) (rows_are by power left (suc n) (drop 48 rows)) h in
    elim (cases_lt k 1) [
      | inl first ↦
          let e : 0 ≡ k = omega arith in
          subst (λ k. take 48 (drop (48 * k) rows) ≡ scale (by (n + k)) power) e
          (same_is (take 48 rows) (scale (by n) power) both.0 ∙ ap (λ m. scale (by m) power) (let z : n ≡ n + 0 = omega arith in z))
      | inr later ↦
          let e : 48 + 48 * (k - 1) ≡ 48 * k = omega (arith, later) in
          ap (λ (xs : List ℕ). take 48 xs) (ap (λ a. drop a rows) (sym e) ∙ sym (drop-drop (48 * (k - 1)) 48 rows))
          ∙ rows_at by power left (suc n) (drop 48 rows) both.1 (k - 1) (omega (arith, lt, later))
          ∙ ap (λ m. scale (by m) power) (let f : suc n + (k - 1) ≡ n + k = omega (arith, later) in f)
    ]

multiple_is : (by : ℕ → ℕ) (from : ℕ) (table : List ℕ) → multiples_are by from table ≡ true → (i n : ℕ) → i < 4 → n < 16
    → chunk (48 * (32 * i + from + n)) 48 table ≡ scale (by n) (one table i)
unfolding multiples_are
multiple_is by from table h i n li ln =
    let start = 48 * (32 * i + from) in
    let place : start + 48 * n ≡ 48 * (32 * i + from + n) = omega arith in
    ap (λ (xs : List ℕ). take 48 xs) (ap (λ a. drop a table) (sym place) ∙ sym (drop-drop (48 * n) start table))
    ∙ rows_at by (one table i) 16 0 (drop start table) (each_at 4 (λ i. rows_are by (one table i) 16 0 (drop (48 * (32 * i + from)) table)) h i li) n ln
    ∙ ap (λ m. scale (by m) (one table i)) (let z : 0 + n ≡ n = omega arith in z)

scaled_is_multiple : (factor top i : ℕ) (row : List ℕ) → i < 4 → 3 ≤ top → row ≡ scale factor (nexts (top - i)) → IsMultipleRemainder factor (48 + top - i) row
scaled_is_multiple factor top i row lt le is = record {
  long = ap (λ (r : List ℕ). length r) is ∙ length-scale factor (nexts (top - i)) ∙ length-nexts (top - i);
  values = λ j pos few.
      ap (word_value (power j)) is ∙ word_value_scale (power j) factor (nexts (top - i))
      ∙ ap (times factor) (nexts_value j (top - i) pos few ∙ ap (nth_power (power j)) (let e : 48 + (top - i) ≡ 48 + top - i = omega arith in e));
}

are_multiples : (top : ℕ) (table : List ℕ) → 3 ≤ top → ones_are top table ≡ true → multiples_are (λ n. n) 0 table ≡ true → multiples_are (λ n. 16 * n) 16 table ≡ true
    → AreMultiples (48 + top) table
are_multiples top table le ones lows highs = record {
  low = λ i n li ln.
      scaled_is_multiple n top i (chunk (48 * (32 * i + n)) 48 table) li le
      (ap (λ (k : ℕ). chunk (48 * k) 48 table) (let e : 32 * i + n ≡ 32 * i + 0 + n = omega arith in e)
      ∙ multiple_is (λ n. n) 0 table lows i n li ln ∙ ap (scale n) (one_is top table ones i li));
  high = λ i n li ln.
      scaled_is_multiple (16 * n) top i (chunk (48 * (32 * i + 16 + n)) 48 table) li le
      (multiple_is (λ n. 16 * n) 16 table highs i n li ln ∙ ap (scale (16 * n)) (one_is top table ones i li));
}

ones_63 : ones_are 15 MULTIPLES_63.bytes ≡ true
unfolding ones_are one same next nexts times polynomial_product remainder
ones_63 = refl

lows_63 : multiples_are (λ n. n) 0 MULTIPLES_63.bytes ≡ true
unfolding multiples_are rows_are one same times polynomial_product remainder
lows_63 = refl

highs_63 : multiples_are (λ n. 16 * n) 16 MULTIPLES_63.bytes ≡ true
unfolding multiples_are rows_are one same times polynomial_product remainder
highs_63 = refl

pub multiples_63 : AreMultiples 63 MULTIPLES_63.bytes
multiples_63 = are_multiples 15 MULTIPLES_63.bytes (omega arith) ones_63 lows_63 highs_63

ones_59 : ones_are 11 MULTIPLES_59.bytes ≡ true
unfolding ones_are one same next nexts times polynomial_product remainder
ones_59 = refl

lows_59 : multiples_are (λ n. n) 0 MULTIPLES_59.bytes ≡ true
unfolding multiples_are rows_are one same times polynomial_product remainder
lows_59 = refl

highs_59 : multiples_are (λ n. 16 * n) 16 MULTIPLES_59.bytes ≡ true
unfolding multiples_are rows_are one same times polynomial_product remainder
highs_59 = refl

pub multiples_59 : AreMultiples 59 MULTIPLES_59.bytes
multiples_59 = are_multiples 11 MULTIPLES_59.bytes (omega arith) ones_59 lows_59 highs_59

ones_55 : ones_are 7 MULTIPLES_55.bytes ≡ true
unfolding ones_are one same next nexts times polynomial_product remainder
ones_55 = refl

lows_55 : multiples_are (λ n. n) 0 MULTIPLES_55.bytes ≡ true
unfolding multiples_are rows_are one same times polynomial_product remainder
lows_55 = refl

highs_55 : multiples_are (λ n. 16 * n) 16 MULTIPLES_55.bytes ≡ true
unfolding multiples_are rows_are one same times polynomial_product remainder
highs_55 = refl

pub multiples_55 : AreMultiples 55 MULTIPLES_55.bytes
multiples_55 = are_multiples 7 MULTIPLES_55.bytes (omega arith) ones_55 lows_55 highs_55

ones_51 : ones_are 3 MULTIPLES_51.bytes ≡ true
unfolding ones_are one same next nexts times polynomial_product remainder
ones_51 = refl

lows_51 : multiples_are (λ n. n) 0 MULTIPLES_51.bytes ≡ true
unfolding multiples_are rows_are one same times polynomial_product remainder
lows_51 = refl

highs_51 : multiples_are (λ n. 16 * n) 16 MULTIPLES_51.bytes ≡ true
unfolding multiples_are rows_are one same times polynomial_product remainder
highs_51 = refl

pub multiples_51 : AreMultiples 51 MULTIPLES_51.bytes
multiples_51 = are_multiples 3 MULTIPLES_51.bytes (omega arith) ones_51 lows_51 highs_51

-- The values at the roots, summed symbol by symbol, and what remains of a word.
use Rattle.std.proofs.Common.{[], ◌∷◌, zero, suc, ◌≡◌, ℕ, ◌+◌, ◌-◌, ◌*◌, ◌<◌, ◌≤◌, true, List, ◌++◌, length, take, drop, replicate, map, get_or, refl, sym, ap, ap₂, ◌∙◌, arith, bit_xor, append-nil}
use Rattle.std.proofs.lemmas.List.{length-take-le, length-drop, take_all, take-append-drop, get_or-replicate}
use Rattle.std.proofs.lemmas.List.FromFn.{get_or-map-range_with_len}
use Rattle.std.proofs.lemmas.Simd.{length-chunk}
use Rattle.std.specs.List.{range_with_len}
use lib.Lanes.{chunk}
use Rattle.gf_field.specs.Field.{power, times, polynomial_product, remainder}
use Rattle.gf_field.proofs.EachBelow.{each_at, each_below}
use Rattle.gf_field.proofs.Polynomial.{same_from_xor}
use Rattle.gf_field.proofs.Times.{times_one, zero_times}
use Rattle.rs_erase.specs.Equations.{nth_power, word_value}
use Rattle.rs_erase.specs.Polynomial.{add, scale}
use Rattle.rs_erase.specs.Register.{IsRemainder}
use Rattle.rs_erase.specs.declared.root_powers.TheConstants.{ROOT_POWERS}
use Rattle.rs_erase.proofs.PolynomialLaws.{get_or_add, get_or_scale, length-scale}
use Rattle.rs_erase.proofs.RemainderTable.{same, same_is}
use Rattle.rs_erase.proofs.WordValues.{length-add_same, more_symbols, word_value-lt, word_value_add, word_value_append}

-- ---- the table of the roots' powers

-- the products of elements, place by place
times_each : List ℕ → List ℕ → List ℕ
times_each [] ys = []
times_each (a ∷ xs) [] = []
times_each (a ∷ xs) (b ∷ ys) = times a b ∷ times_each xs ys

times_each_at : (xs ys : List ℕ) (j : ℕ) → j < length xs → j < length ys → get_or (times_each xs ys) j 0 ≡ times (get_or xs j 0) (get_or ys j 0)
unfolding times_each
times_each_at [] ys j la lb = absurd (omega arith)
times_each_at (a ∷ xs) [] j la lb = absurd (omega arith)
times_each_at (a ∷ xs) (b ∷ ys) zero la lb = refl
times_each_at (a ∷ xs) (b ∷ ys) (suc j) la lb = times_each_at xs ys j (omega arith) (omega arith)

-- The last row has ones, the one before it the roots, and each is the next one times the roots.
ROOTS : List ℕ
ROOTS = chunk 2208 48 ROOT_POWERS

ones : chunk 2256 48 ROOT_POWERS ≡ replicate 48 1
ones = refl

roots : ROOTS ≡ map (λ j. power (j + 1)) (range_with_len 0 48)
unfolding ROOTS power times polynomial_product remainder
roots = refl

rows : each_below 47 (λ p. same (chunk (48 * p) 48 ROOT_POWERS) (times_each ROOTS (chunk (48 * (p + 1)) 48 ROOT_POWERS))) ≡ true
unfolding same times_each ROOTS times polynomial_product remainder
rows = refl

pub row_long : (p : ℕ) → p < 48 → length (chunk (48 * p) 48 ROOT_POWERS) ≡ 48
row_long p lt = length-chunk (48 * p) 48 ROOT_POWERS (let l : length ROOT_POWERS ≡ 2304 = refl in omega arith)

-- so many rows before the last
row_before : (d j : ℕ) → d < 48 → j < 48 → get_or (chunk (48 * (47 - d)) 48 ROOT_POWERS) j 0 ≡ nth_power (power (j + 1)) d
row_before zero j ld lj = ap (λ (xs : List ℕ). get_or xs j 0) ones ∙ get_or-replicate 48 j 1 0 lj
row_before (suc d) j ld lj =
    let p = 47 - suc d in
    let next : p + 1 ≡ 47 - d = omega (arith, ld) in
    let is = same_is (chunk (48 * p) 48 ROOT_POWERS) (times_each ROOTS (chunk (48 * (p + 1)) 48 ROOT_POWERS))
    (each_at 47 (λ p. same (chunk (48 * p) 48 ROOT_POWERS) (times_each ROOTS (chunk (48 * (p + 1)) 48 ROOT_POWERS))) rows p (omega (arith, ld))) in
    let root : get_or ROOTS j 0 ≡ power (j + 1) =
    ap (λ (xs : List ℕ). get_or xs j 0) roots ∙ get_or-map-range_with_len (λ j. power (j + 1)) 0 48 j j 0 lj (omega arith) in
    ap (λ (xs : List ℕ). get_or xs j 0) is
    ∙ times_each_at ROOTS (chunk (48 * (p + 1)) 48 ROOT_POWERS) j (let l = ap length roots in let m = row_long 46 (omega arith) in omega (arith, lj, l, m)) (let l = row_long (p + 1) (omega (arith, ld)) in omega (arith, lj, l))
    ∙ ap₂ times root (ap (λ q. get_or (chunk (48 * q) 48 ROOT_POWERS) j 0) next ∙ row_before d j (omega (arith, ld)) lj)

pub row_at : (p j : ℕ) → p < 48 → j < 48 → get_or (chunk (48 * p) 48 ROOT_POWERS) j 0 ≡ nth_power (power (j + 1)) (47 - p)
row_at p j lp lj =
    ap (λ q. get_or (chunk (48 * q) 48 ROOT_POWERS) j 0) (let e : p ≡ 47 - (47 - p) = omega (arith, lp) in e) ∙ row_before (47 - p) j (omega (arith, lp)) lj

-- ---- the sums

-- the values of the first p symbols with zeros behind them
pub record HasSummed (symbols values : List ℕ) (p : ℕ) : Type 0 where
  pub long : length values ≡ 48
  pub each : (j : ℕ) → j < 48 → get_or values j 0 ≡ times (word_value (power (j + 1)) (take p symbols)) (nth_power (power (j + 1)) (48 - p))

pub none_summed : (symbols : List ℕ) → HasSummed symbols (replicate 48 0) 0
none_summed symbols = record {
  long = refl;
  each = λ j lt. get_or-replicate 48 j 0 0 lt ∙ sym (zero_times (nth_power (power (j + 1)) 48));
}

pub one_summed : (symbols values new row : List ℕ) (f p : ℕ) → p < 48 → length symbols ≡ 48 → f ≡ get_or symbols p 0
    → row ≡ chunk (48 * p) 48 ROOT_POWERS → new ≡ add values (scale f row) → HasSummed symbols values p → HasSummed symbols new (p + 1)
one_summed symbols values new row f p lt ls hf hr hn h =
    let table = chunk (48 * p) 48 ROOT_POWERS in
    let is : new ≡ add values (scale f table) = hn ∙ ap (λ (q : List ℕ). add values (scale f q)) hr in
    let lrow : length table ≡ 48 = row_long p lt in
    let lscale : length (scale f table) ≡ 48 = length-scale f table ∙ lrow in
    let lv : length values ≡ 48 = h.long in
    record {
      long = ap (λ (q : List ℕ). length q) is ∙ length-add_same values (scale f table) (h.long ∙ sym lscale) ∙ lscale;
      each = λ j lj.
          let i = power (j + 1) in
          ap (λ (zs : List ℕ). get_or zs j 0) is
          ∙ get_or_add values (scale f table) j (omega arith) (omega arith)
          ∙ ap₂ bit_xor
          (h.each j lj ∙ ap (λ (k : ℕ). times (word_value i (take p symbols)) (nth_power i k)) (let e : 48 - p ≡ 47 - p + 1 = omega arith in e))
          (get_or_scale f table j (omega arith) ∙ ap (times f) (row_at p j lt lj))
          ∙ more_symbols i f p (47 - p) symbols (omega arith) hf
          ∙ ap (λ (k : ℕ). times (word_value i (take (p + 1) symbols)) (nth_power i k)) (let e : 47 - p ≡ 48 - (p + 1) = omega arith in e);
    }

pub all_summed : (symbols values : List ℕ) → length symbols ≡ 48 → HasSummed symbols values 48 → (j : ℕ) → j < 48 → get_or values j 0 ≡ word_value (power (j + 1)) symbols
all_summed symbols values ls h j lt =
    h.each j lt ∙ times_one (word_value (power (j + 1)) (take 48 symbols)) (word_value-lt (power (j + 1)) (take 48 symbols))
    ∙ ap (word_value (power (j + 1))) (take_all 48 symbols (omega arith))

-- ---- what remains of a word

pub remainder_value : (w register r row : List ℕ) → length w ≡ 255 → length register ≡ 48
    → IsRemainder (take 207 w ++ replicate (207 - length (take 207 w)) 0) register
    → row ≡ chunk 207 48 w → r ≡ add register row → (j : ℕ) → 0 < j → j ≤ 48 → word_value (power j) r ≡ word_value (power j) w
remainder_value w register r row lw lr h hrow hr j pos le =
    let i = power j in
    let first = take 207 w in let last = drop 207 w in
    let lfirst : length first ≡ 207 = length-take-le 207 w (omega arith) in
    let llast : length last ≡ 48 = omega (arith, length-drop 207 w) in
    let none : first ++ replicate (207 - length first) 0 ≡ first =
    ap (λ (k : ℕ). first ++ replicate k 0) (let e : 207 - length first ≡ 0 = omega arith in e) ∙ append-nil first in
    let root : bit_xor (times (word_value i first) (nth_power i 48)) (word_value i register) ≡ 0 =
    ap (λ (k : ℕ). bit_xor (times (word_value i first) (nth_power i k)) (word_value i register)) (sym lr)
    ∙ sym (word_value_append i first register) ∙ ap (λ (m : List ℕ). word_value i (m ++ register)) (sym none) ∙ h.roots j pos le in
    ap (word_value i) (hr ∙ ap (add register) (hrow ∙ take_all 48 last (omega arith)))
    ∙ word_value_add i register last (lr ∙ sym llast)
    ∙ ap (λ (v : ℕ). bit_xor v (word_value i last)) (sym (same_from_xor (times (word_value i first) (nth_power i 48)) (word_value i register) root))
    ∙ ap (λ (k : ℕ). bit_xor (times (word_value i first) (nth_power i k)) (word_value i last)) (sym llast)
    ∙ sym (word_value_append i first last)
    ∙ ap (word_value i) (take-append-drop 207 w)

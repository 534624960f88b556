-- Logarithms of products of sums of locators.
use Rattle.std.proofs.Common.{◌≡◌, ◌≢◌, ℕ, zero, suc, ◌+◌, ◌-◌, ◌*◌, ◌%◌, ◌<◌, ◌≤◌, ◌==◌, ◌⊎◌, ltb, inl, inr, List, [], ◌∷◌, length, get_or, get_or-set_other, get_or-set_same, slice_set, drop, zero-add, refl, sym, ap, ap₂, ◌∙◌, subst, arith, bit_xor}
use Rattle.std.proofs.Math.Nat.{add-zero, mul-one, mul-suc, mul-zero, suc-mul}
use Rattle.std.proofs.lemmas.Bool.{cases_eq, cases_lt, eqb-true, ltb-true}
use Rattle.std.proofs.lemmas.List.{drop_all}
use Rattle.std.proofs.lemmas.Nat.{xor_comm, xor_of_8}
use Rattle.gf_field.specs.Field.{power, times}
use Rattle.gf_field.specs.Laws.{AreLogarithms, ArePowers}
use Rattle.gf_field.specs.declared.logarithms.TheConstants.{LOGS, POWERS}
use Rattle.gf_field.proofs.EachBelow.{each_at}
use Rattle.gf_field.proofs.Polynomial.{same_from_xor}
use Rattle.gf_field.proofs.Powers.{power-lt, power_255, power_add, power_apart, power_rest}
use Rattle.gf_field.proofs.Times.{one_times, times_one, times_xor}
use Rattle.rs_erase.specs.Code.{ArePlaces}
use Rattle.rs_erase.specs.Equations.{locators_of}
use Rattle.rs_erase.specs.Prepared.{scale_of, sums_product, without}
use Rattle.rs_erase.specs.Spaced.{AreFactors}
use Rattle.rs_erase.specs.Zech.{run_sum, runs_sum, zech_sum, AreRunningSums, AreRunsWithin, AreZechLogarithms}
use Rattle.rs_erase.specs.declared.zech_logarithms.TheConstants.{ZECH_LOGARITHMS}
use Rattle.rs_erase.proofs.ErasedPlaces.{length-locators_of}
use Rattle.rs_erase.proofs.OnePlaceLess.{swap}
use Rattle.rs_erase.proofs.OtherPlaces.{no_sum}
use Rattle.rs_erase.proofs.SpacedSums.{rises_by}

zeroth : power 0 ≡ 1
unfolding power
zeroth = refl

-- ---- the table

entry_is : (n : ℕ) → n < 510 → get_or ZECH_LOGARITHMS n 0 ≡ get_or LOGS (bit_xor (get_or POWERS (n % 255) 0) 1) 0
entry_is n lt = eqb-true _ _ (each_at 510 (λ n. get_or ZECH_LOGARITHMS n 0 == get_or LOGS (bit_xor (get_or POWERS (n % 255) 0) 1) 0) refl n lt)

pub table_is : AreLogarithms LOGS POWERS → ArePowers POWERS → AreZechLogarithms ZECH_LOGARITHMS
table_is logs powers = record {
  none = refl;
  power = λ n pos lt ne.
      let r = n % 255 in
      let lr : r < 255 = omega arith in
      let v = bit_xor (power n) 1 in
      let nonzero : v ≡ 0 → ⊥ = λ e. let none : r ≡ 0 = power_apart r 0 lr (omega arith) (power_rest n ∙ same_from_xor (power n) 1 e ∙ sym zeroth) in omega arith in
      let lv : v < 256 = xor_of_8 (power n) 1 (power-lt n) (omega arith) in
      let is : get_or ZECH_LOGARITHMS n 0 ≡ get_or LOGS v 0 =
      entry_is n lt ∙ ap (λ x. get_or LOGS (bit_xor x 1) 0) (powers r lr ∙ power_rest n) in
      ap power is ∙ sym (powers (get_or LOGS v 0) (logs.below v (omega (arith, nonzero)) lv)) ∙ logs.power v (omega (arith, nonzero)) lv;
}

pub entry_small : (n : ℕ) → n < 512 → get_or ZECH_LOGARITHMS n 0 < 256
entry_small n lt = ltb-true _ _ (each_at 512 (λ n. ltb (get_or ZECH_LOGARITHMS n 0) 256) refl n lt)

-- ---- the sums

around : (m : ℕ) → power (255 + m) ≡ power m
around m = power_add 255 m ∙ ap (λ (a : ℕ). times a (power m)) power_255 ∙ one_times (power m) (power-lt m)

-- the sum of two locators
one_sum : (table : List ℕ) → AreZechLogarithms table → (b e : ℕ) → b < 255 → e < 255 → e ≢ b
    → power (254 - b + get_or table (255 - e + b) 0) ≡ bit_xor (power (254 - b)) (power (254 - e))
one_sum table h b e lb le ne =
    let n = 255 - e + b in
    let y = power (254 - b) in
    power_add (254 - b) (get_or table n 0)
    ∙ ap (times y) (h.power n (omega arith) (omega arith) (λ q. ne (omega arith)))
    ∙ times_xor y (power n) 1
    ∙ ap₂ bit_xor (sym (power_add (254 - b) n) ∙ ap power (let q : 254 - b + n ≡ 255 + (254 - e) = omega arith in q) ∙ around (254 - e)) (times_one y (power-lt (254 - b)))
    ∙ xor_comm (power (254 - e)) y

split : (n a t s : ℕ) → suc n * a + (t + s) ≡ a + t + (n * a + s)
split n a t s = let h = suc-mul n a in omega (arith, h)

-- of a place that isn't one of these
pub sums_of_others : (table : List ℕ) → AreZechLogarithms table → (b : ℕ) → b < 255 → (es : List ℕ)
    → ((k : ℕ) → k < length es → get_or es k 0 < 255) → ((k : ℕ) → k < length es → get_or es k 0 ≢ b)
    → power (length es * (254 - b) + zech_sum table b es) ≡ sums_product (power (254 - b)) (locators_of es)
unfolding zech_sum
sums_of_others table h b lb [] below apart = ap power (let e : 0 * (254 - b) + 0 ≡ 0 = omega arith in e) ∙ zeroth
sums_of_others table h b lb (e ∷ es) below apart =
    let a = 254 - b in
    let t = get_or table (255 - e + b) 0 in
    let s = zech_sum table b es in
    ap power (split (length es) a t s)
    ∙ power_add (a + t) (length es * a + s)
    ∙ ap₂ times (one_sum table h b e lb (below 0 (omega arith)) (apart 0 (omega arith)))
    (sums_of_others table h b lb es (λ k lt. below (suc k) (omega arith)) (λ k lt. apart (suc k) (omega arith)))

-- of one of them
pub sums_of_one : (table : List ℕ) → AreZechLogarithms table → (b : ℕ) → b < 255 → (es : List ℕ) (j : ℕ) → j < length es → get_or es j 0 ≡ b
    → ((k : ℕ) → k < length es → get_or es k 0 < 255) → ((k : ℕ) → k < length es → k ≢ j → get_or es k 0 ≢ b)
    → power (length es * (254 - b) + zech_sum table b es) ≡ times (power (254 - b)) (sums_product (power (254 - b)) (without j (locators_of es)))
unfolding zech_sum
sums_of_one table h b lb [] j lt is below apart = absurd (omega arith)
sums_of_one table h b lb (e ∷ es) zero lt is below apart =
    let a = 254 - b in
    let t = get_or table (255 - e + b) 0 in
    let s = zech_sum table b es in
    let none : t ≡ 0 = ap (λ (n : ℕ). get_or table n 0) (let q : 255 - e + b ≡ 255 = omega (arith, is, lb) in q) ∙ h.none in
    ap power (split (length es) a t s ∙ (let q : a + t + (length es * a + s) ≡ a + (length es * a + s) = omega (arith, none) in q))
    ∙ power_add a (length es * a + s)
    ∙ ap (times (power a)) (sums_of_others table h b lb es (λ k lk. below (suc k) (omega arith)) (λ k lk. apart (suc k) (omega arith) (λ q. omega arith)))
sums_of_one table h b lb (e ∷ es) (suc j) lt is below apart =
    let a = 254 - b in
    let t = get_or table (255 - e + b) 0 in
    let s = zech_sum table b es in
    ap power (split (length es) a t s)
    ∙ power_add (a + t) (length es * a + s)
    ∙ ap₂ times (one_sum table h b e lb (below 0 (omega arith)) (apart 0 (omega arith) (λ q. omega arith)))
    (sums_of_one table h b lb es j (omega arith) is (λ k lk. below (suc k) (omega arith)) (λ k lk ne. apart (suc k) (omega arith) (λ q. ne (omega arith))))
    ∙ swap (bit_xor (power a) (power (254 - e))) (power a) (sums_product (power a) (without j (locators_of es)))

-- ---- weights

located_at : (es : List ℕ) (j : ℕ) → j < length es → get_or (locators_of es) j 0 ≡ power (254 - get_or es j 0)
located_at [] j lt = absurd (omega arith)
located_at (e ∷ es) zero lt = refl
located_at (e ∷ es) (suc j) lt = located_at es j (omega arith)

rises : (es : List ℕ) → ArePlaces es → (j k : ℕ) → j < k → k < length es → get_or es j 0 < get_or es k 0
rises es h j k lt lk =
    let e : j + 1 + (k - j - 1) ≡ k = omega arith in
    let up = subst (λ (n : ℕ). get_or es (j + 1) 0 ≤ get_or es n 0) e (rises_by es h (j + 1) (k - j - 1) (omega arith)) in
    let one = h.rising j (omega arith) in
    omega arith

places_apart : (es : List ℕ) → ArePlaces es → (j k : ℕ) → j < length es → k < length es → k ≢ j → get_or es k 0 ≢ get_or es j 0
places_apart es h j k lj lk ne = λ e.
    elim (cases_lt j k) [
      | inl more ↦ let up = rises es h j k more lk in omega arith
      | inr le ↦ let up = rises es h k j (omega (arith, ne)) lj in omega arith
    ]

whole : power 24480 ≡ 1
whole = sym (power_rest 24480) ∙ zeroth

pub weight_is : (table : List ℕ) → AreZechLogarithms table → (es : List ℕ) (j w l : ℕ) → ArePlaces es → j < length es
    → l ≡ length es * (254 - get_or es j 0) + zech_sum table (get_or es j 0) es → l ≤ 24480 → w ≡ power (24480 - l)
    → times w (scale_of (locators_of es) j) ≡ 1
weight_is table h es j w l are lj hl le hw =
    let b = get_or es j 0 in
    let xs = locators_of es in
    let y = power (254 - b) in
    let is : scale_of xs j ≡ power l =
    ap (λ (z : ℕ). times z (sums_product z (without j xs))) (located_at es j lj)
    ∙ sym (sums_of_one table h b (are.below j lj) es j lj refl are.below (λ k lk ne. places_apart es are j k lj lk ne))
    ∙ ap power (sym hl) in
    ap₂ times hw is ∙ sym (power_add (24480 - l) l) ∙ ap power (let e : 24480 - l + l ≡ 24480 = omega arith in e) ∙ whole

-- the logarithm of what a place's value comes to is no more than this
pub logarithm_small : (n a s : ℕ) → n ≤ 48 → a ≤ 254 → s ≤ 255 * n → n * a + s ≤ 24480
logarithm_small n a s ln la ls = let h = product_le n a ln la in omega arith
  where
    product_le : (n a : ℕ) → n ≤ 48 → a ≤ 254 → n * a ≤ 254 * n
    product_le zero a ln la = omega arith
    product_le (suc n) a ln la = let h = product_le n a (omega arith) la in let e = suc-mul n a in omega (arith, h, e)

-- ---- factors

found_or_none : (y : ℕ) (es : List ℕ) → ((k : ℕ) × (k < length es) × (get_or es k 0 ≡ y)) ⊎ ((k : ℕ) → k < length es → get_or es k 0 ≢ y)
found_or_none y [] = inr (λ k lt. absurd (omega arith))
found_or_none y (e ∷ es) =
    elim (cases_eq e y) [
      | inl is ↦ inl (0, omega arith, is)
      | inr ne ↦ elim (found_or_none y es) [
        | inl h ↦ inl (suc h.0, let l = h.1 in omega arith, h.2)
        | inr none ↦ inr (after e es ne none)
      ]
    ]
  where
    after : (e : ℕ) (es : List ℕ) → e ≢ y → ((k : ℕ) → k < length es → get_or es k 0 ≢ y) → (k : ℕ) → k < length (e ∷ es) → get_or (e ∷ es) k 0 ≢ y
    after e es ne none zero lt = ne
    after e es ne none (suc k) lt = none k (omega arith)

pub factors_are : (table : List ℕ) → AreZechLogarithms table → (es factors all sums : List ℕ) → ArePlaces es
    → ((p : ℕ) → p < 48 → get_or all p 0 ≡ power (length es * (47 - p) + get_or sums (207 + p) 0))
    → ((b : ℕ) → b < 255 → get_or sums b 0 ≡ zech_sum table b es)
    → ((p j : ℕ) → p < 48 → j < length es → get_or es j 0 ≡ 207 + p → get_or factors p 0 ≡ 0)
    → ((p : ℕ) → p < 48 → ((j : ℕ) → j < length es → get_or es j 0 ≢ 207 + p) → get_or factors p 0 ≡ get_or all p 0)
    → AreFactors (locators_of es) factors
factors_are table h es factors all sums are made summed cleared others = λ p lt.
    elim (found_or_none (207 + p) es) [
      | inl found ↦
          let j = found.0 in
          let lj : j < length es = found.1 in
          let is : get_or es j 0 ≡ 207 + p = found.2 in
          let e : 254 - get_or es j 0 ≡ 47 - p = omega arith in
          let ll = length-locators_of es in
          cleared p j lt lj is
          ∙ sym (no_sum (power (47 - p)) (locators_of es) j (omega arith) (located_at es j lj ∙ ap power e))
      | inr none ↦
          let e : 254 - (207 + p) ≡ 47 - p = omega arith in
          others p lt none ∙ made p lt ∙ ap (λ (s : ℕ). power (length es * (47 - p) + s)) (summed (207 + p) (omega arith))
          ∙ subst (λ (a : ℕ). power (length es * a + zech_sum table (207 + p) es) ≡ sums_product (power a) (locators_of es)) e
          (sums_of_others table h (207 + p) (omega arith) es are.below none)
    ]

-- ---- one place more

pub sum_from : (k : ℕ) (xs : List ℕ) → k < length xs → (table : List ℕ) (b : ℕ)
    → zech_sum table b (drop k xs) ≡ get_or table (255 - get_or xs k 0 + b) 0 + zech_sum table b (drop (k + 1) xs)
unfolding zech_sum
sum_from k [] lt table b = absurd (omega arith)
sum_from zero (x ∷ xs) lt table b = refl
sum_from (suc k) (x ∷ xs) lt table b =
    sum_from k xs (omega arith) table b
    ∙ ap (λ (n : ℕ). get_or table (255 - get_or xs k 0 + b) 0 + zech_sum table b (drop n (x ∷ xs))) (let e : suc (k + 1) ≡ suc k + 1 = omega arith in e)

pub sum_of_none : (n : ℕ) (xs : List ℕ) → length xs ≤ n → (table : List ℕ) (b : ℕ) → zech_sum table b (drop n xs) ≡ 0
unfolding zech_sum
sum_of_none n xs le table b = ap (zech_sum table b) (drop_all n xs le)

-- ---- runs

-- the table's places come again after 255
entry_again : (n : ℕ) → n < 512 → get_or ZECH_LOGARITHMS (n % 255) 0 ≡ get_or ZECH_LOGARITHMS n 0
entry_again n lt = eqb-true _ _ (each_at 512 (λ n. get_or ZECH_LOGARITHMS (n % 255) 0 == get_or ZECH_LOGARITHMS n 0) refl n lt)

entry_at : (e b : ℕ) → e ≤ 254 → b < 256 → get_or ZECH_LOGARITHMS ((510 - e + b) % 255) 0 ≡ get_or ZECH_LOGARITHMS (255 - e + b) 0
entry_at e b le lb =
    ap (λ (n : ℕ). get_or ZECH_LOGARITHMS n 0) (let q : (510 - e + b) % 255 ≡ (255 - e + b) % 255 = omega arith in q)
    ∙ entry_again (255 - e + b) (omega arith)

-- the sum of a run is the difference of two running sums
pub run_between : (sums : List ℕ) (d : ℕ) → AreRunningSums ZECH_LOGARITHMS d sums → 0 < d → d < 256 → (s n b : ℕ) → s ≤ 254 → s + d * n ≤ 254 + d → b < 256
    → get_or sums (510 - s + b) 0 ≡ get_or sums (510 - s - d * n + b) 0 + run_sum ZECH_LOGARITHMS d b s n
unfolding run_sum
run_between sums d h pos ld s zero b ls le lb =
    let e : 510 - s + b ≡ 510 - s - d * 0 + b = omega (arith, mul-zero d) in
    ap (λ (t : ℕ). get_or sums t 0) e ∙ sym (add-zero (get_or sums (510 - s - d * 0 + b) 0))
run_between sums d h pos ld s (suc n) b ls le lb =
    let more = mul-suc d n in
    let t = 510 - s - d * n + b in
    let before = run_between sums d h pos ld s n b ls (omega (arith, more)) lb in
    let at : t % 255 ≡ (510 - (s + d * n) + b) % 255 = ap (λ (m : ℕ). m % 255) (let q : t ≡ 510 - (s + d * n) + b = omega (arith, more) in q) in
    let entry : get_or ZECH_LOGARITHMS (t % 255) 0 ≡ get_or ZECH_LOGARITHMS (255 - (s + d * n) + b) 0 =
    ap (λ (m : ℕ). get_or ZECH_LOGARITHMS m 0) at ∙ entry_at (s + d * n) b (omega (arith, more)) lb in
    let one = h.later t (omega (arith, more)) (omega (arith, more)) pos in
    let down : get_or sums (t - d) 0 ≡ get_or sums (510 - s - d * suc n + b) 0 =
    ap (λ (m : ℕ). get_or sums m 0) (let q : t - d ≡ 510 - s - d * suc n + b = omega (arith, more) in q) in
    omega (arith, before, one, entry, down)

-- a run whose lists are changed further on
same_runs : (table : List ℕ) (d b : ℕ) (starts lens others counts : List ℕ) (r : ℕ)
    → ((i : ℕ) → i < r → get_or others i 0 ≡ get_or starts i 0) → ((i : ℕ) → i < r → get_or counts i 0 ≡ get_or lens i 0)
    → runs_sum table d b others counts r ≡ runs_sum table d b starts lens r
unfolding runs_sum
same_runs table d b starts lens others counts zero hs hl = refl
same_runs table d b starts lens others counts (suc r) hs hl =
    ap₂ (λ (m n : ℕ). m + n) (same_runs table d b starts lens others counts r (λ i lt. hs i (omega arith)) (λ i lt. hl i (omega arith)))
    (ap₂ (run_sum table d b) (hs r (omega arith)) (hl r (omega arith)))

one_more_place : (table : List ℕ) (d b s n : ℕ) → run_sum table d b s (n + 1) ≡ run_sum table d b s n + get_or table (255 - (s + d * n) + b) 0
unfolding run_sum
one_more_place table d b s n = ap (run_sum table d b s) (let e : n + 1 ≡ suc n = omega arith in e)

-- one place more in a run
pub longer_run : (table : List ℕ) (d b : ℕ) (starts lens : List ℕ) (used r place : ℕ) → r < used → r < length lens
    → get_or starts r 0 + d * get_or lens r 0 ≡ place
    → runs_sum table d b starts (slice_set lens r (get_or lens r 0 + 1)) used ≡ runs_sum table d b starts lens used + get_or table (255 - place + b) 0
unfolding runs_sum
longer_run table d b starts lens zero r place lt ll is = absurd (omega arith)
longer_run table d b starts lens (suc u) r place lt ll is =
    let n = get_or lens r 0 in
    let new = slice_set lens r (n + 1) in
    elim (cases_lt r u) [
      | inl before ↦
          let ne : u ≢ r = λ q. omega arith in
          let rest = longer_run table d b starts lens u r place before ll is in
          let same : run_sum table d b (get_or starts u 0) (get_or new u 0) ≡ run_sum table d b (get_or starts u 0) (get_or lens u 0) =
          ap (run_sum table d b (get_or starts u 0)) (get_or-set_other lens r u (n + 1) 0 ne) in
          omega (arith, rest, same)
      | inr here ↦
          let e : r ≡ u = omega arith in
          let rest = same_runs table d b starts lens starts new u (λ i li. refl) (λ i li. let ne : i ≢ r = λ q. omega arith in get_or-set_other lens r i (n + 1) 0 ne) in
          let last : run_sum table d b (get_or starts u 0) (get_or new u 0) ≡ run_sum table d b (get_or starts r 0) (n + 1) =
          ap₂ (λ (i m : ℕ). run_sum table d b (get_or starts i 0) m) (sym e) (ap (λ (i : ℕ). get_or new i 0) (sym e) ∙ get_or-set_same lens r (n + 1) 0 ll) in
          let more = one_more_place table d b (get_or starts r 0) n in
          let old : run_sum table d b (get_or starts r 0) n ≡ run_sum table d b (get_or starts u 0) (get_or lens u 0) =
          ap (λ (i : ℕ). run_sum table d b (get_or starts i 0) (get_or lens i 0)) e in
          let at : get_or table (255 - (get_or starts r 0 + d * n) + b) 0 ≡ get_or table (255 - place + b) 0 = ap (λ (p : ℕ). get_or table (255 - p + b) 0) is in
          omega (arith, rest, last, more, old, at)
    ]

-- one run more, of one place
pub one_run_more : (table : List ℕ) (d b : ℕ) (starts lens : List ℕ) (used place : ℕ) → used < length starts → used < length lens
    → runs_sum table d b (slice_set starts used place) (slice_set lens used 1) (used + 1) ≡ runs_sum table d b starts lens used + get_or table (255 - place + b) 0
unfolding runs_sum run_sum
one_run_more table d b starts lens u place ls ll =
    let others = slice_set starts u place in
    let counts = slice_set lens u 1 in
    let next : runs_sum table d b others counts (u + 1) ≡ runs_sum table d b others counts u + run_sum table d b (get_or others u 0) (get_or counts u 0) =
    ap (runs_sum table d b others counts) (let e : u + 1 ≡ suc u = omega arith in e) in
    let rest = same_runs table d b starts lens others counts u
    (λ i li. let ne : i ≢ u = λ q. omega arith in get_or-set_other starts u i place 0 ne)
    (λ i li. let ne : i ≢ u = λ q. omega arith in get_or-set_other lens u i 1 0 ne) in
    let one : run_sum table d b (get_or others u 0) (get_or counts u 0) ≡ run_sum table d b place 1 =
    ap₂ (run_sum table d b) (get_or-set_same starts u place 0 ls) (get_or-set_same lens u 1 0 ll) in
    let first : run_sum table d b place 1 ≡ get_or table (255 - place + b) 0 =
    zero-add (get_or table (255 - (place + d * 0) + b) 0)
    ∙ ap (λ (p : ℕ). get_or table (255 - p + b) 0) (let z = mul-zero d in let e : place + d * 0 ≡ place = omega (arith, z) in e) in
    omega (arith, next, rest, one, first)

pub no_runs : (table : List ℕ) (d b : ℕ) (starts lens : List ℕ) → runs_sum table d b starts lens 0 ≡ 0
unfolding runs_sum
no_runs table d b starts lens = refl

pub next_run : (table : List ℕ) (d b : ℕ) (starts lens : List ℕ) (r : ℕ)
    → runs_sum table d b starts lens (r + 1) ≡ runs_sum table d b starts lens r + run_sum table d b (get_or starts r 0) (get_or lens r 0)
unfolding runs_sum
next_run table d b starts lens r = ap (runs_sum table d b starts lens) (let e : r + 1 ≡ suc r = omega arith in e)

-- what the places add is small
pub sum_small : (es : List ℕ) (b : ℕ) → b < 255 → ((k : ℕ) → k < length es → get_or es k 0 < 255) → zech_sum ZECH_LOGARITHMS b es ≤ 255 * length es
unfolding zech_sum
sum_small [] b lb below = omega arith
sum_small (e ∷ es) b lb below =
    let first = below 0 (omega arith) in
    let entry = entry_small (255 - e + b) (omega arith) in
    let rest = sum_small es b lb (λ k lt. below (suc k) (omega arith)) in
    omega arith

-- ---- the lists of runs

pub longer_within : (d : ℕ) (starts lens : List ℕ) (used r place : ℕ) → AreRunsWithin d starts lens used → r < used → r < length lens
    → get_or starts r 0 + d * get_or lens r 0 ≡ place → place < 255 → AreRunsWithin d starts (slice_set lens r (get_or lens r 0 + 1)) used
longer_within d starts lens used r place h lr ll is lp = λ i li.
    let n = get_or lens r 0 in
    let new = slice_set lens r (n + 1) in
    let before = h i li in
    elim (cases_eq i r) [
      | inl e ↦
          let more = mul-suc d n in
          let next : d * (n + 1) ≡ d * suc n = ap (λ (m : ℕ). d * m) (let q : n + 1 ≡ suc n = omega arith in q) in
          let at : d * get_or new i 0 ≡ d * (n + 1) = ap (λ (m : ℕ). d * m) (ap (λ (m : ℕ). get_or new m 0) e ∙ get_or-set_same lens r (n + 1) 0 ll) in
          let same : get_or starts i 0 ≡ get_or starts r 0 = ap (λ (m : ℕ). get_or starts m 0) e in
          (before.0, omega (arith, is, lp, more, next, at, same))
      | inr ne ↦
          let at : d * get_or new i 0 ≡ d * get_or lens i 0 = ap (λ (m : ℕ). d * m) (get_or-set_other lens r i (n + 1) 0 ne) in
          (before.0, omega (arith, at, before.1))
    ]

pub one_more_within : (d : ℕ) (starts lens : List ℕ) (u place : ℕ) → AreRunsWithin d starts lens u → u < length starts → u < length lens → place < 255
    → AreRunsWithin d (slice_set starts u place) (slice_set lens u 1) (u + 1)
one_more_within d starts lens u place h ls ll lp = λ i li.
    let others = slice_set starts u place in
    let counts = slice_set lens u 1 in
    elim (cases_lt i u) [
      | inl before ↦
          let ne : i ≢ u = λ q. omega arith in
          let w = h i before in
          let s : get_or others i 0 ≡ get_or starts i 0 = get_or-set_other starts u i place 0 ne in
          let l : d * get_or counts i 0 ≡ d * get_or lens i 0 = ap (λ (m : ℕ). d * m) (get_or-set_other lens u i 1 0 ne) in
          (omega (arith, s, w.0), omega (arith, s, l, w.1))
      | inr here ↦
          let e : i ≡ u = omega arith in
          let s : get_or others i 0 ≡ place = ap (λ (m : ℕ). get_or others m 0) e ∙ get_or-set_same starts u place 0 ls in
          let l : d * get_or counts i 0 ≡ d * 1 = ap (λ (m : ℕ). d * m) (ap (λ (m : ℕ). get_or counts m 0) e ∙ get_or-set_same lens u 1 0 ll) in
          let one = mul-one d in
          (omega (arith, s, lp), omega (arith, s, l, one, lp))
    ]

pub longer_short : (lens : List ℕ) (used r n : ℕ) → ((i : ℕ) → i < used → get_or lens i 0 ≤ n) → r < used → r < length lens
    → (i : ℕ) → i < used → get_or (slice_set lens r (get_or lens r 0 + 1)) i 0 ≤ n + 1
longer_short lens used r n h lr ll i li =
    let new = slice_set lens r (get_or lens r 0 + 1) in
    elim (cases_eq i r) [
      | inl e ↦
          let at : get_or new i 0 ≡ get_or lens r 0 + 1 = ap (λ (m : ℕ). get_or new m 0) e ∙ get_or-set_same lens r (get_or lens r 0 + 1) 0 ll in
          let b = h r lr in omega (arith, at, b)
      | inr ne ↦ let at = get_or-set_other lens r i (get_or lens r 0 + 1) 0 ne in let b = h i li in omega (arith, at, b)
    ]

pub one_more_short : (lens : List ℕ) (u n : ℕ) → ((i : ℕ) → i < u → get_or lens i 0 ≤ n) → u < length lens
    → (i : ℕ) → i < u + 1 → get_or (slice_set lens u 1) i 0 ≤ n + 1
one_more_short lens u n h ll i li =
    let new = slice_set lens u 1 in
    elim (cases_lt i u) [
      | inl before ↦
          let ne : i ≢ u = λ q. omega arith in
          let at = get_or-set_other lens u i 1 0 ne in let b = h i before in omega (arith, at, b)
      | inr here ↦
          let e : i ≡ u = omega arith in
          let at : get_or new i 0 ≡ 1 = ap (λ (m : ℕ). get_or new m 0) e ∙ get_or-set_same lens u 1 0 ll in omega (arith, at)
    ]

-- ---- running sums

pub before_small : (sums : List ℕ) (d t before : ℕ) → (t < d → before ≡ 0) → (d ≤ t → before ≡ get_or sums (t - d) 0)
    → ((k : ℕ) → k < t → get_or sums k 0 ≤ 255 * (k + 1)) → ((k : ℕ) → t ≤ k → get_or sums k 0 ≡ 0) → before ≤ 255 * t
before_small sums d t before none some small rest =
    elim (cases_lt t d) [
      | inl lt ↦ let e = none lt in omega arith
      | inr le ↦ elim (cases_lt 0 d) [
        | inl pos ↦ let e = some le in let b = small (t - d) (omega arith) in omega arith
        | inr none0 ↦ let e = some le in let r = rest (t - d) (omega arith) in omega arith
      ]
    ]

pub next_running : (sums : List ℕ) (d t v before from : ℕ) → t < length sums → v ≡ before + from → (d ≤ t → before ≡ get_or sums (t - d) 0) → from ≡ get_or ZECH_LOGARITHMS (t % 255) 0
    → ((k : ℕ) → k < t → d ≤ k → 0 < d → get_or sums k 0 ≡ get_or sums (k - d) 0 + get_or ZECH_LOGARITHMS (k % 255) 0)
    → (k : ℕ) → k < t + 1 → d ≤ k → 0 < d → get_or (slice_set sums t v) k 0 ≡ get_or (slice_set sums t v) (k - d) 0 + get_or ZECH_LOGARITHMS (k % 255) 0
next_running sums d t v before from lt hv some hf old k lk le pos =
    let new = slice_set sums t v in
    let apart : k - d ≢ t = λ q. omega arith in
    let back : get_or new (k - d) 0 ≡ get_or sums (k - d) 0 = get_or-set_other sums t (k - d) v 0 apart in
    elim (cases_lt k t) [
      | inl less ↦
          let ne : k ≢ t = λ q. omega arith in
          let same : get_or new k 0 ≡ get_or sums k 0 = get_or-set_other sums t k v 0 ne in
          let h = old k less le pos in omega (arith, back, same, h)
      | inr ge ↦
          let e : k ≡ t = omega arith in
          let here : get_or new k 0 ≡ v = ap (λ (m : ℕ). get_or new m 0) e ∙ get_or-set_same sums t v 0 lt in
          let b = some (omega arith) in
          let at : get_or sums (t - d) 0 ≡ get_or sums (k - d) 0 = ap (λ (m : ℕ). get_or sums (m - d) 0) (sym e) in
          let entry : get_or ZECH_LOGARITHMS (t % 255) 0 ≡ get_or ZECH_LOGARITHMS (k % 255) 0 = ap (λ (m : ℕ). get_or ZECH_LOGARITHMS (m % 255) 0) (sym e) in
          omega (arith, back, here, hv, b, hf, at, entry)
    ]

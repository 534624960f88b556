-- The bytes of a fragment in one chunk, counted at once.
use Rattle.std.proofs.Common.{ℕ, zero, suc, ◌≡◌, ◌≢◌, ◌+◌, ◌*◌, ◌/◌, ◌<◌, ◌≤◌, inl, inr, Bool, true, false, cond, ltb, leb, eqb, ◌&&◌, List, length, get_or, slice_set, refl, sym, subst, ap, ap₂, ◌∙◌, arith}
use Rattle.std.proofs.Math.Nat.{mul-le-mul_right}
use Rattle.std.proofs.lemmas.Bool.{cases_eq, ne_eqb, eq-eqb, ltb-true, leb-true}
use Rattle.std.proofs.lemmas.Bool.Decides.{nat_tests}
use Rattle.std.proofs.lemmas.List.{get_or-set_same, get_or-set_other}
use Rattle.dcp_pft.specs.Loss.{size}
use Rattle.dcp_collect.specs.Counters.{has_enough, becomes_full}
use Rattle.dcp_collect.proofs.Covering.{uncovered, uncovered_same, uncovered_less, come, come_other, come_before, come_now, chunk_of}
use Rattle.dcp_collect.proofs.Sets.{size_same, size_more}

zero_of : (b : Bool) → ◌≡◌ {A = ℕ} (cond b 0 0) 0
zero_of true = refl
zero_of false = refl

one_on : (b : Bool) (n : ℕ) → ◌≡◌ {A = ℕ} (cond b (suc n) 0) (cond b n 0 + cond b 1 0)
one_on true n = omega arith
one_on false n = omega arith

-- one row, whose byte stands in this chunk
row_by : (count index : ℕ) (kept : ℕ → Bool) (row bytes chunk chunks : ℕ) (v : ℕ → ℕ) → index < count → kept index ≡ false
    → chunk * bytes ≤ row * count + index → row * count + index < chunk * bytes + bytes
    → ((q : ℕ) → q < chunks → v q + uncovered (come count index kept row) (q * bytes) bytes ≡ bytes)
    → (q : ℕ) → q < chunks → v q + cond (eqb q chunk) 1 0 + uncovered (come count index kept (row + 1)) (q * bytes) bytes ≡ bytes
row_by count index kept row bytes chunk chunks v l out low high before q few =
    let place = row * count + index in
    elim (cases_eq q chunk) [
      | inl here ↦
          let one : ◌≡◌ {A = ℕ} (cond (eqb q chunk) 1 0) 1 = ap (λ b. cond b 1 0) (eq-eqb q chunk here) in
          let low_q : q * bytes ≤ place = subst (λ n. n * bytes ≤ place) (sym here) low in
          let high_q : place < q * bytes + bytes = subst (λ n. place < n * bytes + bytes) (sym here) high in
          let less = uncovered_less (come count index kept row) (come count index kept (row + 1)) place (q * bytes) bytes
          (come_other count index kept row) (come_before count index kept row l out) (come_now count index kept row l) low_q high_q in
          let was = before q few in
          omega (arith, one, less, was)
      | inr other ↦
          let none : ◌≡◌ {A = ℕ} (cond (eqb q chunk) 1 0) 0 = ap (λ b. cond b 1 0) (ne_eqb q chunk other) in
          let same = uncovered_same (come count index kept (row + 1)) (come count index kept row) (q * bytes) bytes
          (λ p low_p high_p. come_other count index kept row p
          (λ e. other (sym (chunk_of q bytes p low_p high_p) ∙ (ap (λ n. n / bytes) e ∙ chunk_of chunk bytes place low high)))) in
          let was = before q few in
          omega (arith, none, same, was)
    ]

-- so many rows, whose bytes stand in this chunk
pub rows_by : (n count index : ℕ) (kept : ℕ → Bool) (row bytes chunk chunks : ℕ) (v : ℕ → ℕ) → index < count → kept index ≡ false
    → chunk * bytes ≤ row * count + index → ((j : ℕ) → j < n → (row + j) * count + index < chunk * bytes + bytes)
    → ((q : ℕ) → q < chunks → v q + uncovered (come count index kept row) (q * bytes) bytes ≡ bytes)
    → (q : ℕ) → q < chunks → v q + cond (eqb q chunk) n 0 + uncovered (come count index kept (row + n)) (q * bytes) bytes ≡ bytes
rows_by zero count index kept row bytes chunk chunks v l out low high before q few =
    let none = zero_of (eqb q chunk) in
    let same : uncovered (come count index kept (row + 0)) (q * bytes) bytes ≡ uncovered (come count index kept row) (q * bytes) bytes =
    ap (λ r. uncovered (come count index kept r) (q * bytes) bytes) (let e : row + 0 ≡ row = omega arith in e) in
    let was = before q few in
    omega (arith, none, same, was)
rows_by (suc n) count index kept row bytes chunk chunks v l out low high before q few =
    let so_far = rows_by n count index kept row bytes chunk chunks v l out low (λ j h. high j (omega (arith, h))) before in
    let more : row * count ≤ (row + n) * count = mul-le-mul_right count (omega arith) in
    let now = row_by count index kept (row + n) bytes chunk chunks (λ p. v p + cond (eqb p chunk) n 0) l out (omega (arith, low, more)) (high n (omega arith)) so_far q few in
    let one = one_on (eqb q chunk) n in
    let same : uncovered (come count index kept (row + suc n)) (q * bytes) bytes ≡ uncovered (come count index kept (row + n + 1)) (q * bytes) bytes =
    ap (λ r. uncovered (come count index kept r) (q * bytes) bytes) (let e : row + suc n ≡ row + n + 1 = omega arith in e) in
    omega (arith, now, one, same)

-- a counter that was raised
pub raised : (n chunk q : ℕ) (old new : List ℕ) → chunk < length old → new ≡ slice_set old chunk (get_or old chunk 0 + n)
    → get_or new q 0 ≡ get_or old q 0 + cond (eqb q chunk) n 0
raised n chunk q old new within put =
    elim (cases_eq q chunk) [
      | inl here ↦
          ap₂ (λ xs i. get_or xs i 0) put here ∙ (get_or-set_same old chunk (get_or old chunk 0 + n) 0 within
          ∙ ap₂ (λ i m. get_or old i 0 + m) (sym here) (sym (ap (λ b. cond b n 0) (eq-eqb q chunk here))))
      | inr other ↦
          ap (λ xs. get_or xs q 0) put ∙ (get_or-set_other old chunk q (get_or old chunk 0 + n) 0 other
          ∙ sym (ap (λ b. get_or old q 0 + cond b n 0) (ne_eqb q chunk other) ∙ plus (get_or old q 0)))
    ]
  where
    plus : (m : ℕ) → m + 0 ≡ m
    plus m = omega arith

-- how many chunks have enough then
pub more_full : (k n chunk chunks : ℕ) (old new : List ℕ) → chunk < chunks → chunk < length old → new ≡ slice_set old chunk (get_or old chunk 0 + n)
    → size chunks (has_enough k new) ≡ size chunks (has_enough k old) + becomes_full k (get_or old chunk 0) n
more_full k n chunk chunks old new l within put = by (leb k b) (leb k (b + n)) refl refl
  where
    b : ℕ
    b = get_or old chunk 0

    at : get_or new chunk 0 ≡ b + n
    at = ap (λ xs. get_or xs chunk 0) put ∙ get_or-set_same old chunk (b + n) 0 within

    others : (q : ℕ) → q ≢ chunk → has_enough k new q ≡ has_enough k old q
    others q o = ap (λ xs. leb k (get_or xs q 0)) put ∙ ap (leb k) (get_or-set_other old chunk q (b + n) 0 o)

    same : leb k (b + n) ≡ leb k b → size chunks (has_enough k new) ≡ size chunks (has_enough k old)
    same e =
        size_same chunks (has_enough k new) (has_enough k old)
        (λ q few. elim (cases_eq q chunk) [
          | inl here ↦ ap (λ i. leb k (get_or new i 0)) here ∙ (ap (leb k) at ∙ (e ∙ ap (λ i. leb k (get_or old i 0)) (sym here)))
          | inr other ↦ others q other
        ])

    plus : (m : ℕ) → m ≡ m + 0
    plus m = omega arith

    unchanged : leb k (b + n) ≡ leb k b → (ltb b k && leb k (b + n)) ≡ false → size chunks (has_enough k new) ≡ size chunks (has_enough k old) + becomes_full k b n
    unchanged e low_now = same e ∙ (plus (size chunks (has_enough k old)) ∙ sym (ap (λ t. size chunks (has_enough k old) + cond t 1 0) low_now))

    by : (x y : Bool) → leb k b ≡ x → leb k (b + n) ≡ y → size chunks (has_enough k new) ≡ size chunks (has_enough k old) + becomes_full k b n
    by true true e f = unchanged (f ∙ sym e) (grind (arith, nat_tests, e, f))
    by true false e f = absurd (grind (arith, nat_tests, e, f))
    by false false e f = unchanged (f ∙ sym e) (grind (arith, nat_tests, e, f))
    by false true e f =
        size_more chunks chunk (has_enough k old) (has_enough k new) others e (ap (leb k) at ∙ f) l
        ∙ sym (ap (λ t. size chunks (has_enough k old) + cond t 1 0) (let yes : (ltb b k && leb k (b + n)) ≡ true = grind (arith, nat_tests, e, f) in yes))

pub full_now : (k before more : ℕ) → before < k → k ≤ before + more → becomes_full k before more ≡ 1
full_now k before more l h = ap (λ t. cond t 1 0) (let yes : (ltb before k && leb k (before + more)) ≡ true = grind (arith, nat_tests, l, h) in yes)

pub not_full_now : (k before more : ℕ) → (before < k → k ≤ before + more → ⊥) → becomes_full k before more ≡ 0
not_full_now k before more never = by (ltb before k) (leb k (before + more)) refl refl
  where
    by : (x y : Bool) → ltb before k ≡ x → leb k (before + more) ≡ y → becomes_full k before more ≡ 0
    by false y e f = ap (λ t. cond (t && leb k (before + more)) 1 0) e
    by true false e f = ap₂ (λ t u. cond (t && u) 1 0) e f
    by true true e f = absurd (never (ltb-true before k e) (leb-true k (before + more) f))

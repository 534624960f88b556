-- The rows of a spacing, each made of the one a distance before it.
use Rattle.std.proofs.Common.{◌≡◌, ℕ, ◌+◌, ◌-◌, ◌*◌, ◌<◌, inl, inr, List, ◌++◌, length, replicate, get_or, sym, subst, ap, ◌∙◌, arith}
use Rattle.std.proofs.lemmas.Bool.{cases_lt}
use Rattle.std.proofs.lemmas.List.{get_or-append_right, get_or-replicate, get_or_append_left, length-replicate}
use Rattle.std.proofs.lemmas.Simd.{get_or-chunk, get_or-put_chunk_at, get_or-put_chunk_below}
use lib.Lanes.{chunk, put_chunk}
use Rattle.rs_erase.specs.Spaced.{HasRows}

-- the first element of a row, and those of the row a distance before it
pub pushed : (distance row i q : ℕ) (quotients table first lanes : List ℕ) → q ≡ get_or quotients row 0 → 0 < distance → distance < row → i < 16 → distance * i < row
    → first ≡ replicate 16 q → lanes ≡ chunk (16 * (row - distance)) 16 table → HasRows distance quotients table row
    → get_or (chunk 15 16 (first ++ lanes)) i 0 ≡ get_or quotients (row - distance * i) 0
pushed distance row i q quotients table first lanes hq some far li lt hf hl earlier =
    let long : length first ≡ 16 = ap (λ (xs : List ℕ). length xs) hf ∙ length-replicate {A = ℕ} 16 q in
    get_or-chunk 15 16 (first ++ lanes) i 0 li
    ∙ elim (cases_lt i 1) [
      | inl here ↦
          let z : i ≡ 0 = omega (arith, here) in
          let o : distance * 0 ≡ 0 = omega arith in
          let e : distance * i ≡ 0 = ap (λ (n : ℕ). distance * n) z ∙ o in
          get_or_append_left first lanes 0 (15 + i) (omega (arith, here, long))
          ∙ ap (λ (xs : List ℕ). get_or xs (15 + i) 0) hf
          ∙ get_or-replicate 16 (15 + i) q 0 (omega (arith, here)) ∙ hq
          ∙ ap (λ (n : ℕ). get_or quotients n 0) (let f : row ≡ row - distance * i = omega (arith, e) in f)
      | inr later ↦
          let j = i - 1 in
          let next : i ≡ j + 1 = omega (arith, later) in
          let e : distance * i ≡ distance * j + distance = ap (λ (n : ℕ). distance * n) next ∙ (let d : distance * (j + 1) ≡ distance * j + distance = omega arith in d) in
          get_or-append_right first lanes 16 (15 + i) 0 long (omega (arith, later))
          ∙ ap (λ (n : ℕ). get_or lanes n 0) (let f : 15 + i - 16 ≡ j = omega (arith, later) in f)
          ∙ ap (λ (xs : List ℕ). get_or xs j 0) hl
          ∙ get_or-chunk (16 * (row - distance)) 16 table j 0 (omega (arith, li))
          ∙ earlier (row - distance) j (omega (arith, some, far)) (omega (arith, li)) (omega (arith, e, lt))
          ∙ ap (λ (n : ℕ). get_or quotients n 0) (let f : row - distance - distance * j ≡ row - distance * i = omega (arith, e) in f)
    ]

pub one_row_more : (distance row : ℕ) (quotients table lanes new : List ℕ) → length table ≡ 4096 → row < 255 → length lanes ≡ 16
    → new ≡ put_chunk (16 * row) table lanes
    → ((i : ℕ) → i < 16 → distance * i < row → get_or lanes i 0 ≡ get_or quotients (row - distance * i) 0)
    → HasRows distance quotients table row → HasRows distance quotients new (row + 1)
one_row_more distance row quotients table lanes new long lt ll is here earlier = λ r i lr li ld.
    elim (cases_lt r row) [
      | inl before ↦
          ap (λ (xs : List ℕ). get_or xs (16 * r + i) 0) is
          ∙ get_or-put_chunk_below (16 * row) table lanes (16 * r + i) 0 (omega (arith, before, li))
          ∙ earlier r i before li ld
      | inr last ↦
          let same : r ≡ row = omega (arith, lr, last) in
          ap (λ (xs : List ℕ). get_or xs (16 * r + i) 0) is
          ∙ ap (λ (n : ℕ). get_or (put_chunk (16 * row) table lanes) (16 * n + i) 0) same
          ∙ get_or-put_chunk_at (16 * row) table lanes i 0 (omega (arith, li, ll)) (omega (arith, long, lt, ll))
          ∙ here i li (subst (λ (n : ℕ). distance * i < n) same ld)
          ∙ ap (λ (n : ℕ). get_or quotients (n - distance * i) 0) (sym same)
    ]

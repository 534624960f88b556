-- Rows of sixteen bytes, turned into columns.
use Rattle.std.proofs.Common.{ℕ, ◌≡◌, ◌+◌, ◌-◌, ◌*◌, ◌<◌, ◌≤◌, inl, inr, List, ◌++◌, length, take, sym, subst, ap, ◌∙◌, arith}
use Rattle.std.proofs.Math.Nat.{mul-le-mul_right}
use Rattle.std.proofs.lemmas.Bool.{cases_lt}
use Rattle.std.proofs.lemmas.List.{get_or_append_left, get_or-take}
use Rattle.dcp_pft.specs.Coding.{byte_or_zero}
use Rattle.dcp_pft.specs.Turning.{TakesRows, HalvesBytes, TurnsRows, HoldsColumns}

same_place : (xs : List ℕ) (a b : ℕ) → a ≡ b → byte_or_zero xs a ≡ byte_or_zero xs b
same_place xs a b is = ap (byte_or_zero xs) is

-- one row more
pub one_row : (count first p : ℕ) (coded old new : List ℕ) → TakesRows count first p coded old
    → ((n : ℕ) → n < 16 * p → byte_or_zero new n ≡ byte_or_zero old n)
    → ((f : ℕ) → f < 16 → byte_or_zero new (16 * p + f) ≡ byte_or_zero coded (first + p * count + f))
    → TakesRows count first (p + 1) coded new
one_row count first p coded old new taken before here q f below few =
    elim (cases_lt q p) [
      | inl earlier ↦ before (16 * q + f) (omega (arith, earlier, few)) ∙ taken q f earlier few
      | inr last ↦
          let is : q ≡ p = omega (arith, last, below) in
          same_place new (16 * q + f) (16 * p + f) (omega (arith, is))
          ∙ (here f few
          ∙ (same_place coded (first + p * count + f) (p * count + (first + f)) (omega arith)
          ∙ ap (λ (r : ℕ). byte_or_zero coded (r * count + (first + f))) (sym is)))
    ]

-- the bytes before a place stand in both halves
abbrev pub HalvesTo : ℕ → ℕ → List ℕ → List ℕ → Type 0
HalvesTo half at from into =
    (n : ℕ) → n < at → (byte_or_zero into n ≡ byte_or_zero from (2 * n)) × (byte_or_zero into (half + n) ≡ byte_or_zero from (2 * n + 1))

-- sixteen more
pub sixteen_more : (half at : ℕ) (from old new : List ℕ) → HalvesTo half at from old
    → ((n : ℕ) → n < at → (byte_or_zero new n ≡ byte_or_zero old n) × (byte_or_zero new (half + n) ≡ byte_or_zero old (half + n)))
    → ((l : ℕ) → l < 16 → (byte_or_zero new (at + l) ≡ byte_or_zero from (2 * (at + l))) × (byte_or_zero new (half + (at + l)) ≡ byte_or_zero from (2 * (at + l) + 1)))
    → HalvesTo half (at + 16) from new
sixteen_more half at from old new done kept here n below =
    elim (cases_lt n at) [
      | inl earlier ↦ ((kept n earlier).0 ∙ (done n earlier).0, (kept n earlier).1 ∙ (done n earlier).1)
      | inr later ↦
          let is : at + (n - at) ≡ n = omega (arith, later) in
          let P : ℕ → Type 0 = λ m. (byte_or_zero new m ≡ byte_or_zero from (2 * m)) × (byte_or_zero new (half + m) ≡ byte_or_zero from (2 * m + 1)) in
          subst P is (here (n - at) (omega (arith, later, below)))
    ]

-- One step of four: of 2 ^ s columns of height 2 h, made of so many rows, come twice as many of height h.
step : (q h : ℕ) (rows from into : List ℕ)
    → ((r n : ℕ) → r < q → n < 2 * h → byte_or_zero from (r * (2 * h) + n) ≡ byte_or_zero rows (q * n + r))
    → HalvesBytes (q * h) from into
    → (r n : ℕ) → r < 2 * q → n < h → byte_or_zero into (r * h + n) ≡ byte_or_zero rows (2 * q * n + r)
step q h rows from into columns halved r n below low =
    elim (cases_lt r q) [
      | inl first ↦
          let most : (r + 1) * h ≤ q * h = mul-le-mul_right h (omega (arith, first)) in
          (halved (r * h + n) (omega (arith, most, low))).0
          ∙ (same_place from (2 * (r * h + n)) (r * (2 * h) + 2 * n) (omega arith)
          ∙ (columns r (2 * n) first (omega (arith, low))
          ∙ same_place rows (q * (2 * n) + r) (2 * q * n + r) (omega arith)))
      | inr second ↦ later (r - q) (omega (arith, second)) (omega (arith, second, below))
    ]
  where
    later : (e : ℕ) → r ≡ q + e → e < q → byte_or_zero into (r * h + n) ≡ byte_or_zero rows (2 * q * n + r)
    later e is few =
        let most : (e + 1) * h ≤ q * h = mul-le-mul_right h (omega (arith, few)) in
        let place : (q + e) * h + n ≡ q * h + (e * h + n) = omega arith in
        same_place into (r * h + n) (q * h + (e * h + n)) (ap (λ (k : ℕ). k * h + n) is ∙ place)
        ∙ ((halved (e * h + n) (omega (arith, most, low))).1
        ∙ (same_place from (2 * (e * h + n) + 1) (e * (2 * h) + (2 * n + 1)) (omega arith)
        ∙ (columns e (2 * n + 1) few (omega (arith, low))
        ∙ same_place rows (q * (2 * n + 1) + e) (2 * q * n + r) (let e : q * (2 * n + 1) + e ≡ 2 * q * n + (q + e) = omega arith in e ∙ ap (λ (k : ℕ). 2 * q * n + k) (sym is)))))

-- four steps
pub turned : (height : ℕ) (rows one two three four : List ℕ) → HalvesBytes (8 * height) rows one → HalvesBytes (8 * height) one two → HalvesBytes (8 * height) two three → HalvesBytes (8 * height) three four
    → TurnsRows height rows four
turned height rows one two three four a b c d f p few low =
    let none : (r n : ℕ) → r < 1 → n < 2 * (8 * height) → byte_or_zero rows (r * (2 * (8 * height)) + n) ≡ byte_or_zero rows (1 * n + r) =
    λ r n first long. same_place rows (r * (2 * (8 * height)) + n) (1 * n + r) (let is : r ≡ 0 = omega (arith, first) in ap (λ (k : ℕ). k * (2 * (8 * height)) + n) is ∙ (let e : 0 * (2 * (8 * height)) + n ≡ 1 * n + 0 = omega arith in e) ∙ ap (λ (k : ℕ). 1 * n + k) (sym is)) in
    let H : ℕ → List ℕ → List ℕ → Type 0 = λ k xs ys. HalvesBytes k xs ys in
    let first = step 1 (8 * height) rows rows one none (subst (λ (k : ℕ). HalvesBytes k rows one) (omega arith) a) in
    let second = step 2 (4 * height) rows one two (λ r n lt few. same_place one _ _ (omega arith) ∙ first r n lt (omega (arith, few))) (subst (λ (k : ℕ). HalvesBytes k one two) (omega arith) b) in
    let third = step 4 (2 * height) rows two three (λ r n lt few. same_place two _ _ (omega arith) ∙ second r n lt (omega (arith, few))) (subst (λ (k : ℕ). HalvesBytes k two three) (omega arith) c) in
    let fourth = step 8 height rows three four (λ r n lt few. same_place three _ _ (omega arith) ∙ third r n lt (omega (arith, few))) (subst (λ (k : ℕ). HalvesBytes k three four) (omega arith) d) in
    fourth f p few low

-- Of the first sixteen fragments from `first` on each has its column.
pub columns_of : (count first piece height : ℕ) (coded rows turned behind : List ℕ) → piece ≤ height → length turned ≡ 16 * height
    → TakesRows count first piece coded rows → TurnsRows height (take (16 * height) rows) turned
    → HoldsColumns count first piece height coded (turned ++ behind)
columns_of count first piece height coded rows turned behind within long taken turns f p few low =
    let most : (f + 1) * height ≤ 16 * height = mul-le-mul_right height (omega (arith, few)) in
    get_or_append_left turned behind 0 (f * height + p) (omega (arith, most, low, within, long))
    ∙ (turns f p few (omega (arith, low, within))
    ∙ (get_or-take (16 * height) rows (16 * p + f) 0 (omega (arith, few, low, within))
    ∙ taken p f low few))

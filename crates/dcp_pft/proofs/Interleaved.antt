-- The bytes of the coded chunks by their places.
use Rattle.std.proofs.Common.{ℕ, zero, suc, ◌≡◌, ◌+◌, ◌-◌, ◌*◌, ◌<◌, ◌≤◌, inl, inr, List, ◌++◌, length, take, drop, get_or, replicate, refl, sym, ap, ◌∙◌, arith, length-append, length-drop}
use Rattle.std.proofs.lemmas.Bool.{cases_lt}
use Rattle.std.proofs.lemmas.List.{get_or_append_left, get_or-append_right, get_or-append-add, get_or-take, get_or-drop, get_or-replicate, get_or_past, length-take-le, length-replicate}
use Rattle.dcp_pft.specs.Coding.{coded}

-- zeros at the end are as good as none
zero_at : (z n : ℕ) → get_or {A = ℕ} (replicate z 0) n 0 ≡ 0
zero_at z n =
    elim (cases_lt n z) [
      | inl lt ↦ get_or-replicate z n 0 0 lt
      | inr le ↦ get_or_past (replicate z 0) n 0 (omega (arith, length-replicate {A = ℕ} z 0))
    ]

pub filled_at : (bytes : List ℕ) (z n : ℕ) → get_or (bytes ++ replicate z 0) n 0 ≡ get_or bytes n 0
filled_at bytes z n =
    elim (cases_lt n (length bytes)) [
      | inl lt ↦ get_or_append_left bytes (replicate z 0) 0 n lt
      | inr le ↦
          get_or-append_right bytes (replicate z 0) (length bytes) n 0 refl le
          ∙ (zero_at z (n - length bytes) ∙ sym (get_or_past bytes n 0 le))
    ]

module _ (k : ℕ) (chunks parities rest : List ℕ) (enough : k ≤ length chunks) (more : 48 ≤ length parities) where
  -- the first chunk with its parity
  first_long : length (take k chunks ++ take 48 parities) ≡ k + 48
  first_long =
      omega (arith, length-append (take k chunks) (take 48 parities), length-take-le k chunks enough, length-take-le 48 parities more)

  pub first_chunk : (r : ℕ) → r < k → get_or (take k chunks ++ take 48 parities ++ rest) r 0 ≡ get_or chunks r 0
  first_chunk r lt =
      get_or_append_left (take k chunks ++ take 48 parities) rest 0 r (omega (arith, first_long))
      ∙ (get_or_append_left (take k chunks) (take 48 parities) 0 r (omega (arith, length-take-le k chunks enough)) ∙ get_or-take k chunks r 0 lt)

  pub first_parity : (r : ℕ) → r < 48 → get_or (take k chunks ++ take 48 parities ++ rest) (k + r) 0 ≡ get_or parities r 0
  first_parity r lt =
      let place : k + r - k ≡ r = omega arith in
      get_or_append_left (take k chunks ++ take 48 parities) rest 0 (k + r) (omega (arith, first_long))
      ∙ (get_or-append_right (take k chunks) (take 48 parities) k (k + r) 0 (length-take-le k chunks enough) (omega arith)
      ∙ (ap (λ (n : ℕ). get_or (take 48 parities) n 0) place ∙ get_or-take 48 parities r 0 lt))

  pub after_first : (n : ℕ) → get_or (take k chunks ++ take 48 parities ++ rest) (k + 48 + n) 0 ≡ get_or rest n 0
  after_first n =
      ap (λ (m : ℕ). get_or (take k chunks ++ take 48 parities ++ rest) (m + n) 0) (sym first_long)
      ∙ get_or-append-add (take k chunks ++ take 48 parities) rest n 0

-- of chunk q the byte r
pub chunk_at : (c k : ℕ) (chunks parities : List ℕ) (q r : ℕ) → length chunks ≡ c * k → length parities ≡ 48 * c → r < k
    → get_or (coded c k chunks parities) (q * (k + 48) + r) 0 ≡ get_or chunks (q * k + r) 0
chunk_at zero k chunks parities q r whole long lt = sym (get_or_past chunks (q * k + r) 0 (omega (arith, whole)))
chunk_at (suc c) k chunks parities zero r whole long lt =
    let place : 0 * (k + 48) + r ≡ r = omega arith in
    let place' : 0 * k + r ≡ r = omega arith in
    ap (λ (n : ℕ). get_or (coded (suc c) k chunks parities) n 0) place
    ∙ (first_chunk k chunks parities (coded c k (drop k chunks) (drop 48 parities)) (omega (arith, whole)) (omega (arith, long)) r lt
    ∙ ap (λ (n : ℕ). get_or chunks n 0) (sym place'))
chunk_at (suc c) k chunks parities (suc q) r whole long lt =
    let place : suc q * (k + 48) + r ≡ k + 48 + (q * (k + 48) + r) = omega arith in
    let place' : k + (q * k + r) ≡ suc q * k + r = omega arith in
    ap (λ (n : ℕ). get_or (coded (suc c) k chunks parities) n 0) place
    ∙ (after_first k chunks parities (coded c k (drop k chunks) (drop 48 parities)) (omega (arith, whole)) (omega (arith, long)) (q * (k + 48) + r)
    ∙ (chunk_at c k (drop k chunks) (drop 48 parities) q r (omega (arith, whole, length-drop k chunks)) (omega (arith, long, length-drop 48 parities)) lt
    ∙ (get_or-drop k chunks (q * k + r) 0 ∙ ap (λ (n : ℕ). get_or chunks n 0) place')))

-- of the parity of chunk q the byte r
pub parity_at : (c k : ℕ) (chunks parities : List ℕ) (q r : ℕ) → length chunks ≡ c * k → length parities ≡ 48 * c → r < 48
    → get_or (coded c k chunks parities) (q * (k + 48) + (k + r)) 0 ≡ get_or parities (q * 48 + r) 0
parity_at zero k chunks parities q r whole long lt = sym (get_or_past parities (q * 48 + r) 0 (omega (arith, long)))
parity_at (suc c) k chunks parities zero r whole long lt =
    let place : 0 * (k + 48) + (k + r) ≡ k + r = omega arith in
    let place' : 0 * 48 + r ≡ r = omega arith in
    ap (λ (n : ℕ). get_or (coded (suc c) k chunks parities) n 0) place
    ∙ (first_parity k chunks parities (coded c k (drop k chunks) (drop 48 parities)) (omega (arith, whole)) (omega (arith, long)) r lt
    ∙ ap (λ (n : ℕ). get_or parities n 0) (sym place'))
parity_at (suc c) k chunks parities (suc q) r whole long lt =
    let place : suc q * (k + 48) + (k + r) ≡ k + 48 + (q * (k + 48) + (k + r)) = omega arith in
    let place' : 48 + (q * 48 + r) ≡ suc q * 48 + r = omega arith in
    ap (λ (n : ℕ). get_or (coded (suc c) k chunks parities) n 0) place
    ∙ (after_first k chunks parities (coded c k (drop k chunks) (drop 48 parities)) (omega (arith, whole)) (omega (arith, long)) (q * (k + 48) + (k + r))
    ∙ (parity_at c k (drop k chunks) (drop 48 parities) q r (omega (arith, whole, length-drop k chunks)) (omega (arith, long, length-drop 48 parities)) lt
    ∙ (get_or-drop 48 parities (q * 48 + r) 0 ∙ ap (λ (n : ℕ). get_or parities n 0) place')))

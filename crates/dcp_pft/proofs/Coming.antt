-- Every count-th of the coded bytes, as they come in parts.
use Rattle.std.proofs.Common.{ℕ, zero, suc, ◌≡◌, ◌+◌, ◌-◌, ◌*◌, ◌<◌, ◌≤◌, List, [], ◌∷◌, ◌++◌, length, take, drop, get_or, set, replicate, refl, sym, ap, ap₂, ◌∙◌, arith, append_assoc, length-append, length-drop, length-take}
use Rattle.std.proofs.lemmas.List.{ext_get_or, get_or-append_right, get_or-replicate, get_or-take, get_or-drop, length-replicate, length-set, length-take-le, take_more_set, drop-drop}
use Rattle.std.proofs.Math.Nat.{mul-le-mul_right}
use Rattle.std.proofs.lemmas.List.FromFn.{length-map-range_with_len, get_or-map-range_with_len}
use Rattle.dcp_pft.specs.Coding.{byte_or_zero, coded, every}
use Rattle.dcp_pft.specs.Interleaving.{payload_with}
use Rattle.dcp_pft.proofs.Interleaved.{filled_at}

module _ (count : ℕ) where
  place_in : ℕ → List ℕ → ℕ → ℕ
  place_in at bytes j = byte_or_zero bytes (j * count + at)

  pub length-every : (n at : ℕ) (bytes : List ℕ) → length (every count at n bytes) ≡ n
  unfolding place_in
  length-every n at bytes = length-map-range_with_len (place_in at bytes) 0 n

  pub every_at : (n at j : ℕ) (bytes : List ℕ) → j < n → get_or (every count at n bytes) j 0 ≡ get_or bytes (j * count + at) 0
  unfolding place_in
  every_at n at j bytes lt = get_or-map-range_with_len (place_in at bytes) 0 n j j 0 lt (omega arith)

  -- The first byte of those that come is written, and the others are left.
  first_taken : (n at : ℕ) (bytes : List ℕ) → every count at (suc n) bytes ≡ get_or bytes at 0 ∷ every count (at + count) n bytes
  first_taken n at bytes =
      ext_get_or 0 (every count at (suc n) bytes) (get_or bytes at 0 ∷ every count (at + count) n bytes)
      (omega (arith, length-every (suc n) at bytes, length-every n (at + count) bytes))
      (λ j lt. at_place j (omega (arith, lt, length-every (suc n) at bytes)))
    where
      at_place : (j : ℕ) → j < suc n → get_or (every count at (suc n) bytes) j 0 ≡ get_or (get_or bytes at 0 ∷ every count (at + count) n bytes) j 0
      at_place zero lt = every_at (suc n) at 0 bytes lt ∙ ap (λ (i : ℕ). get_or bytes i 0) (let e : 0 * count + at ≡ at = omega arith in e)
      at_place (suc j) lt =
          every_at (suc n) at (suc j) bytes lt
          ∙ (ap (λ (i : ℕ). get_or bytes i 0) (let e : suc j * count + at ≡ j * count + (at + count) = omega arith in e)
          ∙ sym (every_at n (at + count) j bytes (omega (arith, lt))))

  -- A part that ends before the next byte is left out.
  part_left_out : (n at : ℕ) (part rest : List ℕ) → length part ≤ at → every count at n (part ++ rest) ≡ every count (at - length part) n rest
  part_left_out n at part rest short =
      ext_get_or 0 (every count at n (part ++ rest)) (every count (at - length part) n rest)
      (omega (arith, length-every n at (part ++ rest), length-every n (at - length part) rest))
      (λ j lt.
      let few : j < n = omega (arith, lt, length-every n at (part ++ rest)) in
      every_at n at j (part ++ rest) few
      ∙ (get_or-append_right part rest (length part) (j * count + at) 0 refl (omega (arith, short))
      ∙ (ap (λ (i : ℕ). get_or rest i 0) (let e : j * count + at - length part ≡ j * count + (at - length part) = omega (arith, short) in e)
      ∙ sym (every_at n (at - length part) j rest few))))

  -- Behind the coded bytes there are zeros.
  pub nothing_comes : (n at : ℕ) → every count at n [] ≡ replicate n 0
  nothing_comes n at =
      ext_get_or 0 (every count at n []) (replicate n 0) (omega (arith, length-every n at [], length-replicate {A = ℕ} n 0))
      (λ j lt.
      let few : j < n = omega (arith, lt, length-every n at []) in
      every_at n at j [] few ∙ sym (get_or-replicate n j 0 0 few))

  pub one_written : (written at : ℕ) (into coming : List ℕ) → written < length into
      → payload_with count (record { written = written + 1; skip = at + count }) (set into written (get_or coming at 0)) coming
      ≡ payload_with count (record { written = written; skip = at }) into coming
  one_written written at into coming lt =
      let byte : ℕ = get_or coming at 0 in
      let left : ℕ = length into - (written + 1) in
      ap₂ (λ (p : List ℕ) (n : ℕ). p ++ every count (at + count) n coming)
      (take_more_set into written byte lt)
      (let e : length (set into written byte) - (written + 1) ≡ left = omega (arith, length-set into written byte) in e)
      ∙ (append_assoc (take written into) (byte ∷ []) (every count (at + count) left coming)
      ∙ ap (λ (l : List ℕ). take written into ++ l)
      (sym (ap (λ (n : ℕ). every count at n coming) (let e : length into - written ≡ suc left = omega (arith, lt) in e) ∙ first_taken left at coming)))

  pub part_passed : (written at : ℕ) (into part rest : List ℕ) → length part ≤ at
      → payload_with count (record { written = written; skip = at - length part }) into rest
      ≡ payload_with count (record { written = written; skip = at }) into (part ++ rest)
  part_passed written at into part rest short = ap (λ (l : List ℕ). take written into ++ l) (sym (part_left_out (length into - written) at part rest short))

  -- Where all is written, nothing that comes matters.
  pub all_written : (written at other : ℕ) (into coming others : List ℕ) → length into ≤ written
      → payload_with count (record { written = written; skip = at }) into coming
      ≡ payload_with count (record { written = written; skip = other }) into others
  all_written written at other into coming others full =
      let none : length into - written ≡ 0 = omega (arith, full) in
      ap (λ (n : ℕ). take written into ++ every count at n coming) none
      ∙ sym (ap (λ (n : ℕ). take written into ++ every count other n others) none)

-- A chunk of a packet that ends with zeros is what the packet has of it, and zeros.
filled_chunk : (k z at : ℕ) (packet : List ℕ) → at + k ≤ length packet + z
    → take k (drop at (packet ++ replicate z 0)) ≡ take k (drop at packet) ++ replicate (k - length (take k (drop at packet))) 0
filled_chunk k z at packet within =
    let whole : List ℕ = packet ++ replicate z 0 in
    let part : List ℕ = take k (drop at packet) in
    let zeros : List ℕ = replicate (k - length part) 0 in
    let size : length (take k (drop at whole)) ≡ k =
    length-take-le k (drop at whole) (omega (arith, within, length-drop at whole, length-append packet (replicate z 0), length-replicate {A = ℕ} z 0)) in
    let few : length part ≤ k = omega (arith, length-take k (drop at packet)) in
    ext_get_or 0 (take k (drop at whole)) (part ++ zeros)
    (omega (arith, size, few, length-append part zeros, length-replicate {A = ℕ} (k - length part) 0))
    (λ j lt.
    let below : j < k = omega (arith, lt, size) in
    get_or-take k (drop at whole) j 0 below
    ∙ (get_or-drop at whole j 0
    ∙ (filled_at packet z (at + j)
    ∙ sym (filled_at part (k - length part) j ∙ (get_or-take k (drop at packet) j 0 below ∙ get_or-drop at packet j 0)))))

-- The coded bytes from chunk i on are this chunk, the zeros that fill it, its parity, and those from the next one on.
pub next_chunk : (c k z i : ℕ) (packet parity : List ℕ) → c * k ≡ length packet + z → i < c
    → coded (c - i) k (drop (i * k) (packet ++ replicate z 0)) (drop (i * 48) parity)
    ≡ take k (drop (i * k) packet) ++ replicate (k - length (take k (drop (i * k) packet))) 0 ++ take 48 (drop (i * 48) parity)
    ++ coded (c - (i + 1)) k (drop ((i + 1) * k) (packet ++ replicate z 0)) (drop ((i + 1) * 48) parity)
next_chunk c k z i packet parity whole lt =
    let chunks : List ℕ = drop (i * k) (packet ++ replicate z 0) in
    let parities : List ℕ = drop (i * 48) parity in
    let more : ℕ = c - (i + 1) in
    let within : suc i * k ≤ c * k = mul-le-mul_right k (omega (arith, lt)) in
    ap (λ (n : ℕ). coded n k chunks parities) (let e : c - i ≡ suc more = omega (arith, lt) in e)
    ∙ ap₂ (λ (p q : List ℕ). p ++ take 48 parities ++ q) (filled_chunk k z (i * k) packet (omega (arith, within, whole)))
    (ap₂ (coded more k)
    (drop-drop k (i * k) (packet ++ replicate z 0) ∙ ap (λ (n : ℕ). drop n (packet ++ replicate z 0)) (let e : i * k + k ≡ (i + 1) * k = omega arith in e))
    (drop-drop 48 (i * 48) parity ∙ ap (λ (n : ℕ). drop n parity) (let e : i * 48 + 48 ≡ (i + 1) * 48 = omega arith in e)))

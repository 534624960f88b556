-- Coded chunks, written one after another.
use Rattle.std.proofs.Common.{ℕ, ◌≡◌, ◌+◌, ◌-◌, ◌*◌, ◌<◌, ◌≤◌, List, ◌++◌, length, take, drop, replicate, refl, sym, ap, ap₂, ◌∙◌, arith, append_assoc, length-append}
use Rattle.std.proofs.lemmas.List.{take_at, length-take-le, length-replicate, append-nil}
use Rattle.dcp_pft.specs.Coding.{coded}
use Rattle.dcp_pft.proofs.Coming.{next_chunk}

-- what is written behind a place
next_part : (at size : ℕ) (xs part rest new : List ℕ) → at ≤ length xs → length part ≡ size → new ≡ take at xs ++ part ++ rest → take (at + size) new ≡ take at xs ++ part
next_part at size xs part rest new within long is =
    ap (take (at + size)) is ∙ take_at (take at xs ++ part) rest (at + size) (omega (arith, length-append (take at xs) part, length-take-le at xs within, long))

-- a chunk, the zeros that fill it, and its parity
pub chunk_laid : (at k fill : ℕ) (old first second new chunk zeros parity rest more last : List ℕ) → at + (k + 48) ≤ length old → length chunk ≤ k → length parity ≡ 48
    → length first ≡ length old → length second ≡ length old
    → first ≡ take at old ++ chunk ++ rest
    → zeros ≡ replicate fill 0 → fill ≡ k - length chunk
    → second ≡ take (at + length chunk) first ++ (zeros ++ more)
    → new ≡ take (at + k) second ++ parity ++ last
    → take (at + (k + 48)) new ≡ take at old ++ (chunk ++ replicate (k - length chunk) 0 ++ parity)
chunk_laid at k fill old first second new chunk zeros parity rest more last room few long same same' is_first is_zeros is_fill is_second is_new =
    let size : length zeros ≡ k - length chunk = ap length is_zeros ∙ (length-replicate {A = ℕ} fill 0 ∙ is_fill) in
    let one : take (at + length chunk) first ≡ take at old ++ chunk = next_part at (length chunk) old chunk rest first (omega (arith, room)) refl is_first in
    let two : take (at + length chunk + (k - length chunk)) second ≡ take (at + length chunk) first ++ zeros =
    next_part (at + length chunk) (k - length chunk) first zeros more second (omega (arith, room, few, same)) size (is_second ∙ sym (append_assoc (take (at + length chunk) first) zeros more)) in
    let three : take (at + k + 48) new ≡ take (at + k) second ++ parity = next_part (at + k) 48 second parity last new (omega (arith, room, same')) long is_new in
    let place : at + (k + 48) ≡ at + k + 48 = omega arith in
    let middle : at + k ≡ at + length chunk + (k - length chunk) = omega (arith, few) in
    ap (λ (n : ℕ). take n new) place
    ∙ (three
    ∙ (ap (λ (n : ℕ). take n second ++ parity) middle
    ∙ (ap (λ (l : List ℕ). l ++ parity) (two ∙ ap₂ (λ (p q : List ℕ). p ++ q) one (is_zeros ∙ ap (λ (n : ℕ). replicate n 0) is_fill))
    ∙ (append_assoc (take at old ++ chunk) (replicate (k - length chunk) 0) parity
    ∙ (append_assoc (take at old) chunk (replicate (k - length chunk) 0 ++ parity)
    ∙ ap (λ (l : List ℕ). take at old ++ l) (sym (append_assoc chunk (replicate (k - length chunk) 0) parity)))))))

-- one chunk more
pub one_chunk : (c k z i : ℕ) (packet parity chunk chunk_parity old new : List ℕ) → c * k ≡ length packet + z → i < c
    → chunk ≡ take k (drop (i * k) packet) → chunk_parity ≡ take 48 (drop (i * 48) parity)
    → take (i * (k + 48) + (k + 48)) new ≡ take (i * (k + 48)) old ++ (chunk ++ replicate (k - length chunk) 0 ++ chunk_parity)
    → take (i * (k + 48)) old ++ coded (c - i) k (drop (i * k) (packet ++ replicate z 0)) (drop (i * 48) parity) ≡ coded c k (packet ++ replicate z 0) parity
    → take ((i + 1) * (k + 48)) new ++ coded (c - (i + 1)) k (drop ((i + 1) * k) (packet ++ replicate z 0)) (drop ((i + 1) * 48) parity)
    ≡ coded c k (packet ++ replicate z 0) parity
one_chunk c k z i packet parity chunk chunk_parity old new whole lt is_chunk is_parity laid before =
    let rest : List ℕ = coded (c - (i + 1)) k (drop ((i + 1) * k) (packet ++ replicate z 0)) (drop ((i + 1) * 48) parity) in
    let place : (i + 1) * (k + 48) ≡ i * (k + 48) + (k + 48) = omega arith in
    let front : List ℕ = take (i * (k + 48)) old in
    ap (λ (n : ℕ). take n new ++ rest) place
    ∙ (ap (λ (l : List ℕ). l ++ rest) (laid ∙ ap₂ (λ (p q : List ℕ). front ++ (p ++ replicate (k - length p) 0 ++ q)) is_chunk is_parity)
    ∙ (append_assoc front (take k (drop (i * k) packet) ++ replicate (k - length (take k (drop (i * k) packet))) 0 ++ take 48 (drop (i * 48) parity)) rest
    ∙ (ap (λ (l : List ℕ). front ++ l) (sym (next_chunk c k z i packet parity whole lt)) ∙ before)))

-- all of them
pub all_chunks : (c k i : ℕ) (chunks parity into all new : List ℕ) → i ≡ c
    → take (i * (k + 48)) into ++ coded (c - i) k (drop (i * k) chunks) (drop (i * 48) parity) ≡ all
    → (n : ℕ) → n ≡ i * (k + 48) → (size : ℕ) → length into ≡ size → new ≡ take n into ++ replicate (length into - n) 0
    → new ≡ all ++ replicate (size - c * (k + 48)) 0
all_chunks c k i chunks parity into all new last is n is_n size long is_new =
    let none : c - i ≡ 0 = omega (arith, last) in
    let end : n ≡ c * (k + 48) = is_n ∙ ap (λ (m : ℕ). m * (k + 48)) last in
    let front : take (i * (k + 48)) into ≡ all =
    sym (append-nil (take (i * (k + 48)) into)) ∙ (sym (ap (λ (m : ℕ). take (i * (k + 48)) into ++ coded m k (drop (i * k) chunks) (drop (i * 48) parity)) none) ∙ is) in
    is_new ∙ ap₂ (λ (p : List ℕ) (m : ℕ). p ++ replicate m 0) (ap (λ (m : ℕ). take m into) is_n ∙ front) (ap₂ (λ (p q : ℕ). p - q) long end)

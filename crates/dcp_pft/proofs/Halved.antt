-- Two vectors of bytes at even and at odd places, written into both halves.
use Rattle.std.proofs.Common.{ℕ, ◌≡◌, ◌+◌, ◌*◌, ◌<◌, ◌≤◌, List, ◌++◌, length, take, drop, sym, ap, ◌∙◌, arith}
use Rattle.std.proofs.Math.Seq.{take-add, drop-drop}
use Rattle.std.proofs.lemmas.List.{get_or-take, get_or-drop}
use Rattle.std.proofs.lemmas.Simd.{get_or-put_chunk_below, get_or-put_chunk_at, get_or-put_chunk_above, length-put_chunk}
use lib.Lanes.{chunk, put_chunk}
use Rattle.dcp_pft.specs.Coding.{byte_or_zero}

-- two vectors of neighbouring bytes
pair_at : (at n : ℕ) (from : List ℕ) → n < 32 → byte_or_zero (chunk at 16 from ++ chunk (at + 16) 16 from) n ≡ byte_or_zero from (at + n)
pair_at at n from few =
    ap (λ (l : List ℕ). byte_or_zero (take 16 (drop at from) ++ take 16 l) n) (sym (drop-drop 16 at from))
    ∙ (ap (λ (l : List ℕ). byte_or_zero l n) (sym (take-add 16 16 (drop at from)))
    ∙ (get_or-take 32 (drop at from) n 0 few ∙ get_or-drop at from n 0))

module _ (half at : ℕ) (from into evens odds : List ℕ) (within : at + 16 ≤ half) (room : length into ≡ 2 * half) (long : length evens ≡ 16) (same : length odds ≡ 16) where
  pub halves_here : ((l : ℕ) → l < 16 → byte_or_zero evens l ≡ byte_or_zero (chunk (2 * at) 16 from ++ chunk (2 * at + 16) 16 from) (2 * l))
      → ((l : ℕ) → l < 16 → byte_or_zero odds l ≡ byte_or_zero (chunk (2 * at) 16 from ++ chunk (2 * at + 16) 16 from) (2 * l + 1))
      → (l : ℕ) → l < 16 → (byte_or_zero (put_chunk (half + at) (put_chunk at into evens) odds) (at + l) ≡ byte_or_zero from (2 * (at + l)))
      × (byte_or_zero (put_chunk (half + at) (put_chunk at into evens) odds) (half + (at + l)) ≡ byte_or_zero from (2 * (at + l) + 1))
  halves_here even odd l few =
      let front : List ℕ = put_chunk at into evens in (
        get_or-put_chunk_below (half + at) front odds (at + l) 0 (omega (arith, within, few))
            ∙ (get_or-put_chunk_at at into evens l 0 (omega (arith, few, long)) (omega (arith, within, room, long))
            ∙ (even l few
            ∙ (pair_at (2 * at) (2 * l) from (omega (arith, few))
            ∙ ap (byte_or_zero from) (let e : 2 * at + 2 * l ≡ 2 * (at + l) = omega arith in e)))),
        ap (byte_or_zero (put_chunk (half + at) front odds)) (let e : half + (at + l) ≡ half + at + l = omega arith in e)
            ∙ (get_or-put_chunk_at (half + at) front odds l 0 (omega (arith, few, same)) (omega (arith, within, room, same, length-put_chunk at into evens))
            ∙ (odd l few
            ∙ (pair_at (2 * at) (2 * l + 1) from (omega (arith, few))
            ∙ ap (byte_or_zero from) (let e : 2 * at + (2 * l + 1) ≡ 2 * (at + l) + 1 = omega arith in e)))),
      )

  pub halves_before : (n : ℕ) → n < at → (byte_or_zero (put_chunk (half + at) (put_chunk at into evens) odds) n ≡ byte_or_zero into n)
      × (byte_or_zero (put_chunk (half + at) (put_chunk at into evens) odds) (half + n) ≡ byte_or_zero into (half + n))
  halves_before n below =
      let front : List ℕ = put_chunk at into evens in (
        get_or-put_chunk_below (half + at) front odds n 0 (omega (arith, below)) ∙ get_or-put_chunk_below at into evens n 0 below,
        get_or-put_chunk_below (half + at) front odds (half + n) 0 (omega (arith, below)) ∙ get_or-put_chunk_above at into evens (half + n) 0 (omega (arith, within, long)),
      )

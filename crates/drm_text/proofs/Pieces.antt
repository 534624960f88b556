-- The pieces of a message, out of its segments' bytes.
use Rattle.std.proofs.Common.{◌≡◌, ℕ, suc, ◌+◌, ◌-◌, ◌*◌, ◌/◌, ◌%◌, ◌<◌, ◌≤◌, nat_lt, Bool, true, false, if◌then◌else◌, List, length, take, drop, Option, Some, None, sym, ap, subst, ◌∙◌, arith}
use Rattle.std.proofs.lemmas.Bool.{lt-ltb, le-ltb}
use Rattle.std.proofs.lemmas.List.{take-take, drop-take, length-take-le}
use Rattle.drm_text.specs.Segment.{Segment, IsSegment}
use Rattle.drm_text.specs.Message.{start, segment_at, piece_at, IsPieceOf}

-- a piece of a segment that was written
pub piece_is : (toggle : Bool) (message : List ℕ) (k : ℕ) (s : Segment) (bytes : List ℕ) (piece : Option (List ℕ)) → k / 6 ≤ (length message - 1) / 16 → 1 ≤ length message → s ≡ segment_at toggle message (k / 6)
    → IsSegment s bytes → piece ≡ piece_at bytes (k % 6) → IsPieceOf toggle message k piece
piece_is toggle message k s bytes piece within some is written same = record {
  there = λ _. (bytes, subst (λ (t : Segment). IsSegment t bytes) is written, same);
  past = λ behind. absurd (omega (arith, within, some, behind));
}

pub first_piece : (bytes : List ℕ) (place : ℕ) → place ≡ 0 → Some start ≡ piece_at bytes place
first_piece bytes place is = ap (piece_at bytes) (sym is)

within : (n at len : ℕ) (l : List ℕ) → at + n ≤ len → take n (drop at l) ≡ take n (drop at (take len l))
within n at len l fits =
    let m : ℕ = len - at in
    let end : at + m ≡ len = omega arith in
    sym (take-take n m (drop at l) (omega arith)) ∙ ap (take n) (sym (drop-take at m l) ∙ ap (λ j. drop at (take j l)) end)

-- a later piece, where its bytes are there
pub later_piece : (written : List ℕ) (len place : ℕ) (four : List ℕ) → len ≤ length written → (place ≡ 0 → ⊥) → (place - 1) * 4 < len → len % 4 ≡ 0 → four ≡ take 4 (drop ((place - 1) * 4) written)
    → Some four ≡ piece_at (take len written) place
later_piece written len place four room later lt even is =
    let i : ℕ = place - 1 in
    let at : place ≡ suc i = omega (arith, later) in
    let size : length (take len written) ≡ len = length-take-le len written room in
    let test : nat_lt (i * 4) (length (take len written)) ≡ true = ap (nat_lt (i * 4)) size ∙ lt-ltb (i * 4) len lt in
    let there : four ≡ take 4 (drop (i * 4) (take len written)) = is ∙ within 4 (i * 4) len written (omega (arith, lt, even)) in
    ap Some there
    ∙ (ap (λ b. if b then Some (take 4 (drop (i * 4) (take len written))) else None) (sym test) ∙ ap (piece_at (take len written)) (sym at))

-- none, where they aren't
pub no_piece : (written : List ℕ) (len place : ℕ) → len ≤ length written → (place ≡ 0 → ⊥) → len ≤ (place - 1) * 4 → None ≡ piece_at (take len written) place
no_piece written len place room later le =
    let i : ℕ = place - 1 in
    let at : place ≡ suc i = omega (arith, later) in
    let size : length (take len written) ≡ len = length-take-le len written room in
    let test : nat_lt (i * 4) (length (take len written)) ≡ false = ap (nat_lt (i * 4)) size ∙ le-ltb (i * 4) len le in
    ap (λ b. if b then Some (take 4 (drop (i * 4) (take len written))) else None) (sym test) ∙ ap (piece_at (take len written)) (sym at)

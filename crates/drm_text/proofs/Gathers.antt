-- A piece behind those of its segment.
use Rattle.std.proofs.Common.{◌≡◌, ℕ, ◌+◌, ◌≤◌, false, if◌then◌else◌, List, ◌++◌, length, take, drop, Option, Some, is_some, ap, ◌∙◌, arith, length-append}
use Rattle.std.proofs.lemmas.List.{take_at, length-take-le}
use Rattle.drm_text.specs.Joining.{Starts, Grows, Fills, is_start, is_complete, gather, gather_on}

-- the bytes in front, with the piece behind them
pub with_piece : (room new piece : List ℕ) (len : ℕ) → length piece ≡ 4 → len + 4 ≤ length room → new ≡ take len room ++ piece ++ drop (len + length piece) room → take (len + 4) new ≡ take len room ++ piece
with_piece room new piece len four fits is =
    ap (take (len + 4)) is ∙ take_at (take len room ++ piece) (drop (len + length piece) room) (len + 4) (omega (arith, length-append (take len room) piece, length-take-le len room (omega arith), four))

-- a piece that isn't the last one
pub grows : (segment : Option (List ℕ)) (bytes piece : List ℕ) → segment ≡ Some bytes → is_start piece ≡ false → is_complete (bytes ++ piece) ≡ false → gather segment piece ≡ Grows (bytes ++ piece)
grows segment bytes piece is no_start more =
    ap (λ b. if b then Starts (is_some segment) else gather_on segment piece) no_start
    ∙ (ap (λ s. gather_on s piece) is ∙ ap (λ b. if b then Fills (bytes ++ piece) else Grows (bytes ++ piece)) more)

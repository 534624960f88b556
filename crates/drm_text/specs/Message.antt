-- Text messages: how they are cut into segments, and these into pieces of four bytes (this project's own profile).
use Rattle.std.specs.Prelude.{ℕ, zero, suc, ◌≡◌, ◌+◌, ◌*◌, ◌/◌, ◌%◌, ◌==◌, ◌<◌, ◌≤◌, nat_lt, nat_le, Bool, if◌then◌else◌, List, [], ◌∷◌, length, take, drop, Option, Some, None}
use Rattle.drm_text.specs.Segment.{Segment, IsSegment}

-- the most bytes of a message
abbrev pub most_message : ℕ
most_message = 128

-- the piece that stands before each segment
abbrev pub start : List ℕ
start = 255 ∷ 255 ∷ 255 ∷ 255 ∷ []

-- segment j of a message: sixteen bytes of it, or in the last segment those that are left
abbrev pub segment_at : Bool → List ℕ → ℕ → Segment
segment_at toggle message j =
    record {
      toggle = toggle;
      first = j == 0;
      last = nat_le (length message) (j * 16 + 16);
      number = j;
      body = take 16 (drop (j * 16) message);
    }

-- the pieces of a segment with these bytes: the start, and then the bytes four by four
abbrev pub piece_at : List ℕ → ℕ → Option (List ℕ)
piece_at bytes zero = Some start
piece_at bytes (suc i) = if nat_lt (i * 4) (length bytes) then Some (take 4 (drop (i * 4) bytes)) else None

-- Piece k of a message, or none past the last one. Each segment but the last has six pieces.
pub record IsPieceOf (toggle : Bool) (message : List ℕ) (k : ℕ) (piece : Option (List ℕ)) : Type 0 where
  pub there : k / 6 * 16 < length message
      → (bytes : List ℕ) × IsSegment (segment_at toggle message (k / 6)) bytes × (piece ≡ piece_at bytes (k % 6))
  pub past : length message ≤ k / 6 * 16 → piece ≡ None

-- Pieces of messages of which some are lost.
use Rattle.std.specs.Prelude.{ℕ, ◌≡◌, ◌+◌, ◌≤◌, Bool, true, false, ◌&&◌, if◌then◌else◌, List, [], ◌∷◌, ◌++◌, length, Option, Some, None}
use Rattle.std.specs.Str.{IsUtf8}
use Rattle.drm_text.specs.Message.{most_message, IsPieceOf}

-- a message that can be sent
pub record IsMessage (message : List ℕ) : Type 0 where
  pub some : 1 ≤ length message
  pub few : length message ≤ most_message
  pub utf8 : IsUtf8 message

-- these are the pieces of a message from number k on, and there are no others behind them
abbrev pub ArePiecesFrom : Bool → List ℕ → ℕ → List (List ℕ) → Type 0
ArePiecesFrom toggle message k [] = IsPieceOf toggle message k None
ArePiecesFrom toggle message k (piece ∷ pieces) = IsPieceOf toggle message k (Some piece) × ArePiecesFrom toggle message (k + 1) pieces

-- a message with its toggle, its pieces, and which of them come
pub record Sending : Type 0 where
  pub message : List ℕ
  pub toggle : Bool
  pub pieces : List (List ℕ)
  pub kept : List Bool

pub record IsSending (m : Sending) : Type 0 where
  pub message : IsMessage m.message
  pub pieces : ArePiecesFrom m.toggle m.message 0 m.pieces
  pub each : length m.kept ≡ length m.pieces

-- what comes: a piece where it is kept, and a gap in place of each that isn't
abbrev pub piece_or_gap : Bool → List ℕ → Option (List ℕ)
piece_or_gap true piece = Some piece
piece_or_gap false piece = None

abbrev pub kept_of : List Bool → List (List ℕ) → List (Option (List ℕ))
kept_of [] pieces = []
kept_of (k ∷ kept) [] = []
kept_of (k ∷ kept) (piece ∷ pieces) = piece_or_gap k piece ∷ kept_of kept pieces

abbrev pub all_kept : List Bool → Bool
all_kept [] = true
all_kept (k ∷ kept) = k && all_kept kept

-- of messages one after another
abbrev pub reading_of : List Sending → List (Option (List ℕ))
reading_of [] = []
reading_of (m ∷ sent) = kept_of m.kept m.pieces ++ reading_of sent

-- the messages all of whose pieces are kept, in order
abbrev pub whole_messages : List Sending → List (List ℕ)
whole_messages [] = []
whole_messages (m ∷ sent) = if all_kept m.kept then m.message ∷ whole_messages sent else whole_messages sent

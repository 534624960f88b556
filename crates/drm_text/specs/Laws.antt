-- The laws of text messages.
use Rattle.std.specs.Prelude.{ℕ, ◌≡◌, ◌%◌, Bool, List, Some}
use Rattle.std.specs.Str.{IsUtf8}
use Rattle.drm_text.specs.Message.{start, IsPieceOf}

-- No piece of a message but the start of a segment is four bytes FF.
abbrev pub OnlyStarts : Type 0
OnlyStarts = (toggle : Bool) (message : List ℕ) (k : ℕ) → IsUtf8 message → IsPieceOf toggle message k (Some start) → k % 6 ≡ 0

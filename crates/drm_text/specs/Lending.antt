-- What a call that lends a message leaves.
use Rattle.std.specs.Prelude.{ℕ, ◌≡◌, List, Option}
use Rattle.std.specs.Borrow.{MutBor, Fml}
use Rattle.std.specs.Io.BufRead.{Rests}
use Rattle.drm_text.specs.Segment.{Segment}
use Rattle.drm_text.specs.Joining.{TextState, gather, ReadsIn, after}
use Rattle.drm_text.specs.contracts.joiner.TextJoiner.{the_row}

-- the joiner after the piece, whatever it was read as
abbrev pub JoinerAfterPiece : List ℕ → MutBor TextState → Fml
JoinerAfterPiece piece joiner =
    Rests the_row joiner (λ left. (read : Option Segment) → ReadsIn (gather joiner.now.segment piece) read → left ≡ after joiner.now piece read)

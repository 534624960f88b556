-- The laws of joining pieces.
use Rattle.std.specs.Prelude.{ℕ, ◌≡◌, ◌↔◌, Bool, List, [], ◌∷◌, ◌++◌, length, Option, None, Some}
use Rattle.std.specs.List.{AllByRecursion}
use Rattle.std.specs.Borrow.{Bor}
use Rattle.drm_text.specs.Segment.{Segment}
use Rattle.drm_text.specs.Joining.{TextState, made, gather, ReadsIn, after}
use Rattle.drm_text.specs.Taking.{GivesOfPiece, text_of}
use Rattle.law_text.specs.Readings.{PieceReading, IsEntry, EndsMessage, AreMessages}
use Rattle.law_text.specs.Runs.{JoinerRuns, messages_in}
use Rattle.law_text.specs.Losses.{ArePiecesFrom, Sending, IsSending, reading_of, whole_messages}

-- What a joiner's calls say one after another is its run: where a piece is taken, by what is told and by what the joiner is then, however
-- the piece is read; and where a gap is.
pub record CallsAreARun (reading : PieceReading) (texts : List (Option (List ℕ))) (s : TextState) : Type 0 where
  pub piece : (piece : List ℕ) (result : Option (Bor (List ℕ))) (left : TextState)
      → GivesOfPiece s piece result → ((read : Option Segment) → ReadsIn (gather s.segment piece) read → left ≡ after s piece read)
      → JoinerRuns made (reading ++ Some piece ∷ []) (texts ++ text_of result ∷ []) left
  pub gap : JoinerRuns made (reading ++ None ∷ []) (texts ++ None ∷ []) made

abbrev pub RunsByCalls : Type 0
RunsByCalls = (reading : PieceReading) (texts : List (Option (List ℕ))) (s : TextState) → JoinerRuns made reading texts s → CallsAreARun reading texts s

-- Of every reading a new joiner gives the messages that are in it, and no others.
abbrev pub JoinsMessages : Type 0
JoinsMessages =
    (reading : PieceReading) (texts : List (Option (List ℕ))) (messages : List (List ℕ)) (left : TextState)
    → AllByRecursion IsEntry reading → JoinerRuns made reading texts left
    → AreMessages [] reading messages ↔ (messages ≡ messages_in texts)

-- In every reading, at each place: a new joiner gives a message exactly where one ends there.
abbrev pub AnswersEachPiece : Type 0
AnswersEachPiece =
    (before more : PieceReading) (x : Option (List ℕ)) (answers later : List (Option (List ℕ))) (text : Option (List ℕ)) (left : TextState)
    → AllByRecursion IsEntry (before ++ x ∷ more) → JoinerRuns made (before ++ x ∷ more) (answers ++ text ∷ later) left → length answers ≡ length before
    → (message : List ℕ) → (text ≡ Some message) ↔ EndsMessage (before ++ x ∷ []) message

-- The pieces of a message are one list.
abbrev pub OneList : Type 0
OneList =
    (toggle : Bool) (message : List ℕ) (first second : List (List ℕ))
    → ArePiecesFrom toggle message 0 first → ArePiecesFrom toggle message 0 second → first ≡ second

-- Of the pieces of messages one after another, some of which are lost with a gap in place of each, a new joiner gives exactly the
-- messages of which none is lost, whatever their toggles are. At the end it is as new.
abbrev pub GivesWholeMessages : Type 0
GivesWholeMessages =
    (sent : List Sending) (texts : List (Option (List ℕ))) (left : TextState)
    → AllByRecursion IsSending sent → JoinerRuns made (reading_of sent) texts left
    → (messages_in texts ≡ whole_messages sent) × (left ≡ made)

-- Readings of a stream's pieces, and the text messages in them. No joiner is spoken of here.
use Rattle.std.specs.Prelude.{ℕ, zero, suc, ◌≡◌, ◌==◌, ◌≤◌, ◌⊎◌, Bool, true, false, List, [], ◌∷◌, ◌++◌, length, Option, Some, None}
use Rattle.std.specs.Str.{IsUtf8}
use Rattle.drm_text.specs.Segment.{Segment, most_body, IsSegment}
use Rattle.drm_text.specs.Message.{start, most_message}

-- A reading is a list of pieces, of four bytes each, and gaps.
abbrev pub PieceReading : Type 0
PieceReading = List (Option (List ℕ))

abbrev pub IsEntry : Option (List ℕ) → Type 0
IsEntry None = Unit {0}
IsEntry (Some piece) = length piece ≡ 4

-- pieces of which none is missing
abbrev pub without_gaps : List (List ℕ) → List (Option (List ℕ))
without_gaps [] = []
without_gaps (piece ∷ pieces) = Some piece ∷ without_gaps pieces

-- the bytes of pieces together
abbrev pub bytes_of : List (List ℕ) → List ℕ
bytes_of [] = []
bytes_of (piece ∷ pieces) = piece ++ bytes_of pieces

-- A segment came whole: the start, and directly behind it pieces that together are the segment's bytes. That says that its check value
-- is right, that its command and four more bits are 0, and that zeros stand at its end.
pub record HasNoGaps (s : Segment) (reading : PieceReading) : Type 0 where
  pub pieces : List (List ℕ)
  pub all : reading ≡ Some start ∷ without_gaps pieces
  pub segment : IsSegment s (bytes_of pieces)

-- Directly behind what came of a message before, its segment n came whole. It says its number and the toggle, and that it is first exactly
-- where it is. This is the text of the message with it.
pub record MessageGoesOn (Before : List ℕ → PieceReading → Type 0) (toggle : Bool) (n : ℕ) (s : Segment) (text : List ℕ) (reading : PieceReading) : Type 0 where
  pub before : List ℕ
  pub ahead : PieceReading
  pub here : PieceReading
  pub begun : Before before ahead
  pub toggle_is : s.toggle ≡ toggle
  pub number_is : s.number ≡ n
  pub first_is : s.first ≡ (n == 0)
  pub text_is : text ≡ before ++ s.body
  pub whole : HasNoGaps s here
  pub all : reading ≡ ahead ++ here

-- The reading is n segments of a message, one directly behind another, from number 0 on, with no gap and no other piece between. None of
-- them is last, and each has a body of 16 bytes.
abbrev pub AreBegun : Bool → ℕ → List ℕ → PieceReading → Type 0
AreBegun toggle zero text reading = (text ≡ []) × (reading ≡ [])
AreBegun toggle (suc n) text reading =
    (s : Segment) × MessageGoesOn (AreBegun toggle n) toggle n s text reading × (s.last ≡ false) × (length s.body ≡ most_body)

-- The reading ends in a whole message: behind its other segments came the one that is last.
pub record EndsMessage (reading : PieceReading) (message : List ℕ) : Type 0 where
  pub front : PieceReading
  pub pieces : PieceReading
  pub all : reading ≡ front ++ pieces
  pub toggle : Bool
  pub number : ℕ
  pub segment : Segment
  pub goes : MessageGoesOn (AreBegun toggle number) toggle number segment message pieces
  pub last : segment.last ≡ true
  pub few : length message ≤ most_message
  pub utf8 : IsUtf8 message

-- the messages that end in this reading behind what was read before, in order: at each place the one that ends there, if there is one
abbrev pub AreMessages : PieceReading → List (Option (List ℕ)) → List (List ℕ) → Type 0
AreMessages before [] messages = messages ≡ []
AreMessages before (x ∷ reading) messages =
    ((message : List ℕ) × (more : List (List ℕ)) × EndsMessage (before ++ x ∷ []) message × (messages ≡ message ∷ more) × AreMessages (before ++ x ∷ []) reading more)
    ⊎ (((message : List ℕ) → EndsMessage (before ++ x ∷ []) message → ⊥) × AreMessages (before ++ x ∷ []) reading messages)

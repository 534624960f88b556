-- What a joiner of text messages does, by its fields.
use Rattle.std.specs.Prelude.{ℕ, ◌≡◌, ◌≤◌, List, Option, None, Some, IfSome}
use Rattle.std.specs.Borrow.{Bor}
use Rattle.drm_text.specs.declared.joiner.TextJoiner.TheInside.{Inside}
use Rattle.drm_text.specs.declared.message.MessageBuffer.{MessageBuffer}
use Rattle.drm_text.specs.Segment.{Segment}
use Rattle.drm_text.specs.Message.{most_message}
use Rattle.drm_text.specs.Joining.{TextState, ReadsSegment, ReadsIn, gather, begun_after, whole_with, GivesMessage}
use Rattle.drm_text.specs.Buffers.{segment_in, begun_in, front_of, IsSegmentBuffer, IsMessageBuffer}

abbrev pub state : Inside → TextState
state j = record { begun = begun_in j.message; segment = segment_in j.segment }

pub record TextJoinerInvariant (j : Inside) : Type 0 where
  pub segment : IsSegmentBuffer j.segment
  pub message : IsMessageBuffer j.message

-- The bytes are this segment, or none, and the message was joined with it.
pub record TookSegment (bytes : List ℕ) (old : MessageBuffer) (len : Option ℕ) (new : MessageBuffer) : Type 0 where
  pub read : Option Segment
  pub reads : ReadsSegment bytes read
  pub begun : begun_in new ≡ begun_after (begun_in old) read
  pub whole : front_of new.text len ≡ whole_with (begun_in old) read
  pub within : IfSome len (λ n. n ≤ most_message)
  pub room : IsMessageBuffer new

-- the text that is lent
abbrev pub text_of : Option (Bor (List ℕ)) → Option (List ℕ)
text_of None = None
text_of (Some text) = Some text.now

-- What a piece is read as is told: the message that is whole with it, if it is UTF-8, and else nothing.
abbrev pub GivesOfPiece : TextState → List ℕ → Option (Bor (List ℕ)) → Type 0
GivesOfPiece s piece result =
    (read : Option Segment) × ReadsIn (gather s.segment piece) read × GivesMessage (whole_with s.begun read) (text_of result)

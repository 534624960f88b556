-- A joiner of text messages as data, and what each piece makes of it.
use Rattle.std.specs.Prelude.{ℕ, ◌≡◌, ◌+◌, ◌==◌, nat_le, Bool, true, false, ◌&&◌, not, if◌then◌else◌, List, [], ◌∷◌, ◌++◌, length, Option, None, Some, is_some, IsSome, IfSome, ◌↔◌}
use Rattle.std.specs.Str.{IsUtf8}
use Rattle.drm_text.specs.Segment.{Segment, most_body, round_up, IsSegment}
use Rattle.drm_text.specs.Message.{most_message}
use Rattle.drm_text.specs.Reading.{body_length}

-- a message that was begun: its toggle, the number of its next segment, and its bytes so far
pub record OpenMessage : Type 0 where
  pub toggle : Bool
  pub number : ℕ
  pub bytes : List ℕ

-- the message that was begun, if one was; and behind a start the bytes of its segment so far
pub record TextState : Type 0 where
  pub begun : Option OpenMessage
  pub segment : Option (List ℕ)

abbrev pub made : TextState
made = record { begun = None; segment = None }

-- four bytes FF
abbrev pub is_start : List ℕ → Bool
is_start (a ∷ b ∷ c ∷ d ∷ []) = (a == 255) && ((b == 255) && ((c == 255) && (d == 255)))
is_start other = false

-- so many bytes as the first of them says
abbrev pub is_complete : List ℕ → Bool
is_complete bytes = nat_le (round_up (body_length bytes) + 4) (length bytes)

-- What a piece is: a start, which breaks off a segment or doesn't; a stray, with no start before it; one of a segment that goes on, with its
-- bytes so far; or the last of a segment, with its bytes.
pub data PieceRole : Type 0 where
  Starts : Bool → PieceRole
  Strays : PieceRole
  Grows : List ℕ → PieceRole
  Fills : List ℕ → PieceRole

abbrev pub gather_on : Option (List ℕ) → List ℕ → PieceRole
gather_on None piece = Strays
gather_on (Some bytes) piece = if is_complete (bytes ++ piece) then Fills (bytes ++ piece) else Grows (bytes ++ piece)

abbrev pub gather : Option (List ℕ) → List ℕ → PieceRole
gather segment piece = if is_start piece then Starts (is_some segment) else gather_on segment piece

-- the bytes of the segment then
abbrev pub segment_after : PieceRole → Option (List ℕ)
segment_after (Starts breaks) = Some []
segment_after Strays = None
segment_after (Grows bytes) = Some bytes
segment_after (Fills bytes) = None

abbrev pub same_flag : Bool → Bool → Bool
same_flag true b = b
same_flag false b = not b

-- the bytes of the message with this segment, where it is the next one
abbrev pub joined : Option OpenMessage → Segment → Option (List ℕ)
joined None s = None
joined (Some m) s =
    if same_flag s.toggle m.toggle && ((s.number == m.number) && nat_le (length m.bytes + length s.body) most_message) then Some (m.bytes ++ s.body)
    else None

abbrev pub bytes_with : Option OpenMessage → Segment → Option (List ℕ)
bytes_with b s = if s.first then (if s.number == 0 then Some s.body else None) else joined b s

-- the message that goes on after this segment: it has a full body and isn't the last
abbrev pub going_on : Segment → Option (List ℕ) → Option OpenMessage
going_on s None = None
going_on s (Some bytes) =
    if not s.last && (length s.body == most_body) then Some (record { toggle = s.toggle; number = s.number + 1; bytes = bytes }) else None

-- the message that is whole with this segment, if it is UTF-8
abbrev pub whole : Segment → Option (List ℕ) → Option (List ℕ)
whole s bytes = if s.last then bytes else None

-- the bytes are this segment, or no segment
abbrev pub ReadsSegment : List ℕ → Option Segment → Type 0
ReadsSegment bytes None = (s : Segment) → IsSegment s bytes → ⊥
ReadsSegment bytes (Some s) = IsSegment s bytes

-- what is read of a piece: a segment where it is the last piece of one
abbrev pub ReadsIn : PieceRole → Option Segment → Type 0
ReadsIn (Fills bytes) read = ReadsSegment bytes read
ReadsIn other read = read ≡ None

-- the message that was begun, after a segment that was read or wasn't
abbrev pub begun_after : Option OpenMessage → Option Segment → Option OpenMessage
begun_after b None = None
begun_after b (Some s) = going_on s (bytes_with b s)

-- and after a piece: a start that breaks off a segment, a stray and a segment that isn't one end it
abbrev pub begun_by : Option OpenMessage → PieceRole → Option Segment → Option OpenMessage
begun_by b (Starts breaks) read = if breaks then None else b
begun_by b Strays read = None
begun_by b (Grows bytes) read = b
begun_by b (Fills bytes) read = begun_after b read

-- the joiner after a piece
abbrev pub after : TextState → List ℕ → Option Segment → TextState
after s piece read =
    let g = gather s.segment piece in record { begun = begun_by s.begun g read; segment = segment_after g }

-- the bytes of the message that a segment makes whole
abbrev pub whole_with : Option OpenMessage → Option Segment → Option (List ℕ)
whole_with b None = None
whole_with b (Some s) = whole s (bytes_with b s)

-- a message is given exactly where the bytes are UTF-8
abbrev pub GivesMessage : Option (List ℕ) → Option (List ℕ) → Type 0
GivesMessage None text = text ≡ None
GivesMessage (Some bytes) text = (IsSome text ↔ IsUtf8 bytes) × IfSome text (λ given. given ≡ bytes)

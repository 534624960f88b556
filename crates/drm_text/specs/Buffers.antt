-- The rooms for a segment and for a message, and what stands in them.
use Rattle.std.specs.Prelude.{ℕ, ◌≡◌, ◌%◌, ◌≤◌, List, ◌++◌, length, take, Option, None, Some, IfSome}
use Rattle.drm_text.specs.declared.gather.PieceRole.{PieceRole as CodeGathered}
use Rattle.drm_text.specs.declared.gather.PieceRole.TheVariants.{Start, Stray, More, Full}
use Rattle.drm_text.specs.declared.gather.SegmentBuffer.{SegmentBuffer}
use Rattle.drm_text.specs.declared.message.OpenMessage.{OpenMessage as CodeBegun}
use Rattle.drm_text.specs.declared.message.MessageBuffer.{MessageBuffer}
use Rattle.drm_text.specs.Message.{most_message}
use Rattle.drm_text.specs.Joining.{OpenMessage, PieceRole, Starts, Strays, Grows, Fills}

-- the bytes that stand in front
abbrev pub front_of : List ℕ → Option ℕ → Option (List ℕ)
front_of bytes None = None
front_of bytes (Some len) = Some (take len bytes)

abbrev pub segment_in : SegmentBuffer → Option (List ℕ)
segment_in r = front_of r.bytes r.len

-- Pieces were gathered, and a segment that isn't whole has room for one more.
pub record IsSegmentBuffer (r : SegmentBuffer) : Type 0 where
  pub room : length r.bytes ≡ 20
  pub within : IfSome r.len (λ len. (len ≤ 16) × (len % 4 ≡ 0))

-- what the code says of a piece, with the bytes in front
abbrev pub IsGathered : CodeGathered → SegmentBuffer → PieceRole → Type 0
IsGathered (Start breaks) r g = g ≡ Starts breaks
IsGathered Stray r g = g ≡ Strays
IsGathered More r g = (bytes : List ℕ) × (g ≡ Grows bytes)
IsGathered (Full len) r g = (len ≤ 20) × (g ≡ Fills (take len r.bytes))

-- the message whose bytes stand in front
abbrev pub begun_of : List ℕ → Option CodeBegun → Option OpenMessage
begun_of text None = None
begun_of text (Some b) = Some (record { toggle = b.toggle; number = b.number; bytes = take b.len text })

abbrev pub begun_in : MessageBuffer → Option OpenMessage
begun_in r = begun_of r.text r.begun

pub record IsMessageBuffer (r : MessageBuffer) : Type 0 where
  pub room : length r.text ≡ most_message
  pub within : IfSome r.begun (λ b. (b.len ≤ most_message) × (b.number ≤ 16))

-- the bytes up to a place, and then a body
abbrev pub body_from : List ℕ → List ℕ → Option ℕ → Option (List ℕ)
body_from text body None = None
body_from text body (Some at) = Some (take at text ++ body)

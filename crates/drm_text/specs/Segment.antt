-- Segments of text messages: a head of two bytes, a body, a check value in two, and zeros (this project's own profile).
use Rattle.std.specs.Prelude.{ℕ, ◌≡◌, ◌+◌, ◌-◌, ◌*◌, ◌/◌, ◌<◌, ◌≤◌, Bool, List, ◌∷◌, ◌++◌, length, replicate}
use Rattle.std.specs.Int.{w16, to_be_bytes, from_bool}
use Rattle.drm_bits.specs.Crc.{IsCheckOf}

-- What a segment says: the toggle, which changes with each message, whether it is the first and the last one of its message, its
-- number in it from 0 on, and its bytes of the message.
pub record Segment : Type 0 where
  pub toggle : Bool
  pub first : Bool
  pub last : Bool
  pub number : ℕ
  pub body : List ℕ

-- the most bytes of a body
abbrev pub most_body : ℕ
most_body = 16

-- a number, rounded up to a multiple of four
abbrev pub round_up : ℕ → ℕ
round_up n = (n + 3) / 4 * 4

-- the first byte: toggle, first and last in one bit each, the command in one, which is 0, and the length of the body less one in four
abbrev pub head : Segment → ℕ
head s =
    128 * from_bool s.toggle + 64 * from_bool s.first + 32 * from_bool s.last + (length s.body - 1)

-- what stands before the check value; the second byte has the number in four bits, and four that are 0
abbrev pub front : Segment → List ℕ
front s = head s ∷ 16 * s.number ∷ s.body

-- The bytes are the segment, the check value of all before it, and zeros up to a multiple of four bytes.
pub record SpellsSegment (s : Segment) (check : ℕ) (bytes : List ℕ) : Type 0 where
  pub some : 1 ≤ length s.body
  pub few : length s.body ≤ most_body
  pub number : s.number < 16
  pub spelled : bytes ≡ front s ++ to_be_bytes w16 check ++ replicate (round_up (length s.body) - length s.body) 0
  pub checked : IsCheckOf (front s) check

-- the bytes are this segment
abbrev pub IsSegment : Segment → List ℕ → Type 0
IsSegment s bytes = (check : ℕ) × SpellsSegment s check bytes

-- What the code asks of the bytes of a segment.
use Rattle.std.specs.Prelude.{ℕ, ◌≡◌, ◌+◌, ◌/◌, ◌%◌, ◌≤◌, List, length, take, drop, slice_index, EachIndex}
use Rattle.std.specs.Int.{w16, from_be_bytes}
use Rattle.drm_bits.specs.Crc.{IsCheckOf}
use Rattle.drm_text.specs.Segment.{round_up}

-- the length of the body by the first byte
abbrev pub body_length : List ℕ → ℕ
body_length bytes = slice_index bytes 0 % 16 + 1

-- the head is one of a segment of so many bytes
pub record BeginsWell (bytes : List ℕ) : Type 0 where
  pub least : 8 ≤ length bytes
  pub size : length bytes ≡ round_up (body_length bytes) + 4
  pub command : slice_index bytes 0 / 16 % 2 ≡ 0
  pub spare : slice_index bytes 1 % 16 ≡ 0

-- The check value of the first bytes stands behind them, and then zeros.
pub record EndsWithCheck (bytes : List ℕ) (end : ℕ) : Type 0 where
  pub checked : IsCheckOf (take end bytes) (from_be_bytes w16 (take 2 (drop end bytes)))
  pub zeros : EachIndex (drop (end + 2) bytes) (λ k. slice_index (drop (end + 2) bytes) k ≡ 0)

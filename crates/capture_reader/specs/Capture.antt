-- A capture: packets one after another.
use Rattle.std.specs.Prelude.{ℕ, ◌≡◌, ◌≢◌, ◌-◌, ◌<◌, ◌≤◌, ◌⊎◌, List, [], ◌++◌, length, take, All}
use Rattle.std.specs.List.{concat}
use Rattle.capture_reader.specs.declared.fault.CaptureField.{CaptureField}
use Rattle.capture_reader.specs.declared.fault.CaptureFault.{CaptureFault}
use Rattle.capture_reader.specs.Front.{Wrong, Cut, BytesBegin, IsWhole}

-- the most bytes of a capture
abbrev pub most_bytes : ℕ
most_bytes = 4294967295

-- how the bytes end behind the packets that they begin with
pub data CaptureEnding : Type 0 where
  End : CaptureEnding
  Fault : CaptureFault → CaptureEnding
  TooLong : CaptureEnding

-- So many bytes end so behind packets of `at` bytes, where `rest` is left. What stands behind the most bytes of a capture
-- is not looked at.
abbrev pub EndsWith : ℕ → ℕ → List ℕ → CaptureEnding → Type 0
EndsWith size at rest End = (rest ≡ []) × (size ≤ most_bytes)
EndsWith size at rest (Fault fault) =
    (fault.at ≡ at)
    × (BytesBegin (take (most_bytes - at) rest) (Wrong fault.field)
    ⊎ ((size ≤ most_bytes) × (rest ≢ []) × BytesBegin rest (Cut fault.field)))
EndsWith size at rest TooLong = (most_bytes < size) × ((field : CaptureField) × BytesBegin (take (most_bytes - at) rest) (Cut field))

-- The bytes are these packets, and then they end so.
pub record IsCaptureOf (bytes : List ℕ) (packets : List (List ℕ)) (ending : CaptureEnding) : Type 0 where
  pub whole : All IsWhole packets
  pub few : length (concat packets) ≤ most_bytes
  pub rest : List ℕ
  pub is : bytes ≡ concat packets ++ rest
  pub ends : EndsWith (length bytes) (length (concat packets)) rest ending

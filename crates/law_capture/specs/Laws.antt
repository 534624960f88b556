-- Laws of captures.
use Rattle.std.specs.Prelude.{ℕ, ◌≡◌, ◌≤◌, List, ◌++◌, length, All}
use Rattle.std.specs.List.{concat}
use Rattle.capture_reader.specs.Front.{IsWhole}
use Rattle.capture_reader.specs.Capture.{CaptureEnding, IsCaptureOf, most_bytes}

-- Packets that bytes begin with, and that are no longer than a capture may be, are the first ones of the capture that the bytes are.
abbrev pub PacketsInFront : Type 0
PacketsInFront =
    (bytes : List ℕ) (packets all : List (List ℕ)) (more : List ℕ) (ending : CaptureEnding)
    → All IsWhole packets → bytes ≡ concat packets ++ more → length (concat packets) ≤ most_bytes → IsCaptureOf bytes all ending
    → (later : List (List ℕ)) × (all ≡ packets ++ later)

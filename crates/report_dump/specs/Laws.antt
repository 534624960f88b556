-- A packet has one text.
use Rattle.std.specs.Prelude.{ℕ, ◌≡◌, Bool, List}
use Rattle.report_dump.specs.Text.{IsPacketText}

-- a packet at a byte of a capture has one text, which tells what is wrong or doesn't
abbrev pub HasOneText : Type 0
HasOneText = (at : ℕ) (bytes text other : List ℕ) (bad worse : Bool) → IsPacketText at bytes text bad → IsPacketText at bytes other worse → (text ≡ other) × (bad ≡ worse)

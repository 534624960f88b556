-- A capture that is read from an input, packet by packet.
use Rattle.std.specs.Prelude.{ℕ, ◌≡◌, ◌+◌, ◌≤◌, List, [], ◌∷◌, ◌++◌, length, All}
use Rattle.std.specs.List.{concat}
use Rattle.drm_links.specs.Known.{Known}
use Rattle.drm_links.specs.Source.{Input, InputsBytes}
use Rattle.capture_reader.specs.declared.fault.CaptureField.{CaptureField}
use Rattle.capture_reader.specs.declared.packets.CaptureStop.{CaptureStop}
use Rattle.capture_reader.specs.declared.packets.CaptureStop.TheVariants as stop
use Rattle.capture_reader.specs.Front.{Packet, Cut, BytesBegin, IsWhole}
use Rattle.capture_reader.specs.Capture.{most_bytes, Fault, TooLong, IsCaptureOf}
use Rattle.capture_reader.specs.Walking.{WalkerState, most_held}

-- Of what was left of the input before, these packets were given, and the bytes that the reader holds are taken, at most as many
-- as it has room for.
pub record HasRead (packets : List (List ℕ)) (reader : WalkerState) (before after : Known Input) : Type 0 where
  pub whole : All IsWhole packets
  pub at : reader.at ≡ length (concat packets)
  pub few : reader.at + length reader.held ≤ most_bytes
  pub room : length reader.held ≤ most_held
  pub bytes : InputsBytes before after (λ left rest. left ≡ concat packets ++ (reader.held ++ rest))

-- The next packet is whole in what the reader holds.
abbrev pub HasNext : WalkerState → Type 0
HasNext reader = (n : ℕ) × BytesBegin reader.held (Packet n)

-- The packets are those that are whole in the bytes taken.
abbrev pub ReadingBreaks : List (List ℕ) → List ℕ → List ℕ → Type 0
ReadingBreaks packets left rest =
    (held : List ℕ) × (field : CaptureField) × (left ≡ concat packets ++ (held ++ rest)) × BytesBegin held (Cut field)

-- The reading stops behind these packets.
abbrev pub ReadingStops : List (List ℕ) → CaptureStop → Known Input → Known Input → Type 0
ReadingStops packets stop.Read before after = InputsBytes before after (ReadingBreaks packets)
ReadingStops packets (stop.Capture fault) before after = InputsBytes before after (λ left rest. IsCaptureOf left packets (Fault fault))
ReadingStops packets stop.TooLong before after = InputsBytes before after (λ left rest. IsCaptureOf left packets TooLong)

-- A packet is given: it stands at the front of what was held.
pub record PacketGiven (packet : List ℕ) (before after : WalkerState) : Type 0 where
  pub whole : IsWhole packet
  pub held : before.held ≡ packet ++ after.held
  pub at : after.at ≡ before.at + length packet
  pub reads : (packets : List (List ℕ)) (old new : Known Input) → HasRead packets before old new → HasRead (packets ++ packet ∷ []) after old new

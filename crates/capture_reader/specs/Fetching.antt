-- What is read of an input on the way to the next packet.
use Rattle.std.specs.Prelude.{ℕ, ◌≡◌, ◌≢◌, ◌+◌, ◌<◌, ◌≤◌, ◌⊎◌, Bool, true, false, List, [], ◌++◌, length, max, Result, Ok, Err}
use Rattle.drm_links.specs.Known.{Known}
use Rattle.drm_links.specs.Source.{Input, InputsBytes}
use Rattle.drm_links.specs.declared.source.ReadOut.{ReadOut}
use Rattle.drm_links.specs.declared.source.ReadOut.TheVariants as read
use Rattle.capture_reader.specs.declared.packets.CaptureStop.{CaptureStop}
use Rattle.capture_reader.specs.declared.packets.CaptureStop.TheVariants as stop
use Rattle.capture_reader.specs.Front.{Wrong, Cut, BytesBegin}
use Rattle.capture_reader.specs.Capture.{most_bytes}
use Rattle.capture_reader.specs.Walking.{WalkerState, most_held, IsPacketCut}
use Rattle.capture_reader.specs.Reading.{HasNext}

-- Bytes of the input came behind those that were held.
pub record BytesCame (old new : WalkerState) (before after : Known Input) : Type 0 where
  pub at : new.at ≡ old.at
  pub few : new.at + length new.held ≤ most_bytes
  pub room : length new.held ≤ max (length old.held) most_held
  pub bytes : InputsBytes before after (λ left rest. old.held ++ left ≡ new.held ++ rest)

-- The reader is full, and more bytes came, which it doesn't hold.
pub record IsFull (old new : WalkerState) (before after : Known Input) : Type 0 where
  pub at : new.at ≡ old.at
  pub full : new.at + length new.held ≡ most_bytes
  pub more : InputsBytes before after (λ left rest. (more : List ℕ) × (0 < length more) × (old.held ++ left ≡ new.held ++ (more ++ rest)))

-- No byte is left.
abbrev pub IsAtEnd : Known Input → Known Input → Type 0
IsAtEnd before after = InputsBytes before after (λ left rest. rest ≡ [])

-- one read: whether bytes came
abbrev pub FetchesBytes : Result Bool CaptureStop → WalkerState → WalkerState → Known Input → Known Input → Type 0
FetchesBytes (Ok true) old new before after = BytesCame old new before after × (length old.held < length new.held)
FetchesBytes (Ok false) old new before after = (new ≡ old) × BytesCame old new before after × IsAtEnd before after
FetchesBytes (Err stop.Read) old new before after = (new ≡ old) × BytesCame old new before after
FetchesBytes (Err (stop.Capture fault)) old new before after = ⊥
FetchesBytes (Err stop.TooLong) old new before after = (new ≡ old) × IsFull old new before after

-- no more than this, but one byte where it is none
abbrev pub ReadsFew : ReadOut → ℕ → Type 0
ReadsFew (read.Got n) most = n ≤ max most 1
ReadsFew read.End most = Unit {0}
ReadsFew read.Failed most = Unit {0}

-- how the packets end where no more bytes come
abbrev pub EndsReading : Result Bool CaptureStop → WalkerState → Type 0
EndsReading (Ok true) reader = ⊥
EndsReading (Ok false) reader = reader.held ≡ []
EndsReading (Err (stop.Capture fault)) reader = (reader.held ≢ []) × (fault.at ≡ reader.at) × BytesBegin reader.held (Cut fault.field)
EndsReading (Err other) reader = ⊥

-- many reads: whether the next packet is whole
abbrev pub FindsPacket : Result Bool CaptureStop → WalkerState → WalkerState → Known Input → Known Input → Type 0
FindsPacket (Ok true) old new before after = BytesCame old new before after × HasNext new
FindsPacket (Ok false) old new before after = BytesCame old new before after × (new.held ≡ []) × IsAtEnd before after
FindsPacket (Err stop.Read) old new before after = BytesCame old new before after × IsPacketCut new
FindsPacket (Err (stop.Capture fault)) old new before after =
    BytesCame old new before after
    × (fault.at ≡ new.at)
    × (BytesBegin new.held (Wrong fault.field) ⊎ ((new.held ≢ []) × BytesBegin new.held (Cut fault.field) × IsAtEnd before after))
FindsPacket (Err stop.TooLong) old new before after = IsFull old new before after × IsPacketCut new

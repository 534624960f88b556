-- The laws of captures.
use Rattle.std.specs.Prelude.{◌≡◌, ◌≢◌, ◌≤◌, ℕ, List, [], ◌∷◌, ◌++◌, length, take}
use Rattle.capture_reader.specs.declared.fault.CaptureField.{CaptureField}
use Rattle.capture_reader.specs.Front.{Front, Packet, Wrong, Cut, BytesBegin}
use Rattle.capture_reader.specs.Capture.{CaptureEnding, End, Fault, IsCaptureOf, most_bytes}
use Rattle.capture_reader.specs.Walking.{WalkerState, HasWalked, new_walker, after_put, after_packet}

-- Bytes begin in one way.
abbrev pub OneFront : Type 0
OneFront = (bytes : List ℕ) (f g : Front) → BytesBegin bytes f → BytesBegin bytes g → f ≡ g

-- A packet stands there whatever comes behind, and so does what is wrong.
abbrev pub FrontsStay : Type 0
FrontsStay =
    (bytes more : List ℕ)
    → ((n : ℕ) → BytesBegin bytes (Packet n) → BytesBegin (bytes ++ more) (Packet n))
    × ((field : CaptureField) → BytesBegin bytes (Wrong field) → BytesBegin (bytes ++ more) (Wrong field))

-- Bytes are read in one way.
abbrev pub ReadOneWay : Type 0
ReadOneWay =
    (bytes : List ℕ) (packets others : List (List ℕ)) (ending other : CaptureEnding)
    → IsCaptureOf bytes packets ending → IsCaptureOf bytes others other → (packets ≡ others) × (ending ≡ other)

-- Any bytes are read in some way.
abbrev pub ReadSomeWay : Type 0
ReadSomeWay = (bytes : List ℕ) → (packets : List (List ℕ)) × (ending : CaptureEnding) × IsCaptureOf bytes packets ending

-- However a capture is put in pieces, and whenever packets are given in between: what is given are its packets and its
-- fault. A fault stays, whatever is put.
pub record WalksCaptures : Type 0 where
  pub begins : HasWalked [] [] new_walker
  pub puts : (bytes more : List ℕ) (packets : List (List ℕ)) (walker : WalkerState)
      → HasWalked bytes packets walker → HasWalked (bytes ++ more) packets (after_put more walker)
  pub gives : (bytes : List ℕ) (packets : List (List ℕ)) (walker : WalkerState) (n : ℕ)
      → HasWalked bytes packets walker → BytesBegin walker.held (Packet n) → HasWalked bytes (packets ++ take n walker.held ∷ []) (after_packet n walker)
  pub wrong : (bytes more : List ℕ) (packets : List (List ℕ)) (walker : WalkerState) (field : CaptureField)
      → HasWalked bytes packets walker → length bytes ≤ most_bytes → BytesBegin walker.held (Wrong field)
      → IsCaptureOf (bytes ++ more) packets (Fault (record { at = walker.at; field = field }))
  pub cut : (bytes : List ℕ) (packets : List (List ℕ)) (walker : WalkerState) (field : CaptureField)
      → HasWalked bytes packets walker → length bytes ≤ most_bytes → walker.held ≢ [] → BytesBegin walker.held (Cut field)
      → IsCaptureOf bytes packets (Fault (record { at = walker.at; field = field }))
  pub ends : (bytes : List ℕ) (packets : List (List ℕ)) (walker : WalkerState)
      → HasWalked bytes packets walker → length bytes ≤ most_bytes → walker.held ≡ [] → IsCaptureOf bytes packets End

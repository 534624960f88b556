-- The walk over a capture.
use Rattle.std.specs.Prelude.{ℕ, ◌≡◌, ◌+◌, List, [], ◌++◌, length, take, drop, min, Option, Some, None, Result, Ok, Err, All}
use Rattle.std.specs.List.{concat}
use Rattle.capture_reader.specs.declared.fault.CaptureField.{CaptureField}
use Rattle.capture_reader.specs.declared.fault.CaptureFault.{CaptureFault}
use Rattle.capture_reader.specs.declared.packet.Packet.{Packet as Given}
use Rattle.capture_reader.specs.Front.{Front, Packet, Wrong, Cut, BytesBegin, IsWhole}

-- the place of the next packet in the capture, and the bytes that were put and are in no packet given
pub record WalkerState : Type 0 where
  pub at : ℕ
  pub held : List ℕ

abbrev pub new_walker : WalkerState
new_walker = record { at = 0; held = [] }

-- the bytes that a walker holds at most
abbrev pub most_held : ℕ
most_held = 131072

abbrev pub after_put : List ℕ → WalkerState → WalkerState
after_put bytes walker = record { at = walker.at; held = walker.held ++ bytes }

-- behind a packet of so many bytes
abbrev pub after_packet : ℕ → WalkerState → WalkerState
after_packet n walker = record { at = walker.at + n; held = drop n walker.held }

-- The bytes held end inside or before the next packet.
abbrev pub IsPacketCut : WalkerState → Type 0
IsPacketCut walker = (field : CaptureField) × BytesBegin walker.held (Cut field)

-- what a walker gives of what it holds
abbrev pub WalkerGives : Result (Option Given) CaptureFault → WalkerState → Type 0
WalkerGives (Ok (Some packet)) walker = (packet.at ≡ walker.at) × ((n : ℕ) × BytesBegin walker.held (Packet n) × (packet.bytes.now ≡ take n walker.held))
WalkerGives (Ok None) walker = IsPacketCut walker
WalkerGives (Err fault) walker = (fault.at ≡ walker.at) × BytesBegin walker.held (Wrong fault.field)

-- which answer is due where the bytes held begin so
abbrev pub IsDue : Front → Result (Option Given) CaptureFault → WalkerState → Type 0
IsDue (Packet n) (Ok (Some packet)) walker = (packet.at ≡ walker.at) × (packet.bytes.now ≡ take n walker.held)
IsDue (Cut field) (Ok None) walker = Unit {0}
IsDue (Wrong field) (Err fault) walker = fault ≡ record { at = walker.at; field = field }
IsDue front result walker = ⊥

-- and how it is afterwards
abbrev pub WalkerLeaves : Result (Option Given) CaptureFault → WalkerState → WalkerState → Type 0
WalkerLeaves (Ok (Some packet)) before after = after ≡ after_packet (length packet.bytes.now) before
WalkerLeaves (Ok None) before after = after ≡ before
WalkerLeaves (Err fault) before after = after ≡ before

-- how a walk ends where no more bytes come
abbrev pub WalkEnds : Result (Unit {0}) CaptureFault → WalkerState → Type 0
WalkEnds (Ok _) walker = walker.held ≡ []
WalkEnds (Err fault) walker = (walker.held ≡ [] → ⊥) × (fault.at ≡ walker.at) × BytesBegin walker.held (Cut fault.field)

-- These bytes were put, the packets were given, and the rest is held.
pub record HasWalked (bytes : List ℕ) (packets : List (List ℕ)) (walker : WalkerState) : Type 0 where
  pub whole : All IsWhole packets
  pub at : walker.at ≡ length (concat packets)
  pub is : bytes ≡ concat packets ++ walker.held

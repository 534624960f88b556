-- A joiner as data, and each of its calls as a function of it.
use Rattle.std.specs.Prelude.{ℕ, ◌≡◌, ◌+◌, ◌==◌, nat_le, Bool, ◌&&◌, not, if◌then◌else◌, List, ◌++◌, length, Option, None, Some, is_some}
use Rattle.drm_data.specs.declared.fault.DataFault.{DataFault}
use Rattle.drm_data.specs.declared.joined.Joined.{Joined}
use Rattle.drm_data.specs.declared.joined.Joined.TheVariants.{Nothing, Unit as OneUnit, Cut, CutUnit, Refused}
use Rattle.drm_data.specs.PacketFields.{PacketFields, IsPacket}
use Rattle.drm_data.specs.Faults.{IsFault}
use Rattle.drm_data.specs.Units.{most_unit, next_continuity}

-- One thing in a reading: a packet, of whatever id; bytes that are refused; or a gap, where something is missing.
pub data JoinerEvent : Type 0 where
  Received : PacketFields → JoinerEvent
  Broken : DataFault → JoinerEvent
  Gap : JoinerEvent

-- what these bytes are, with data fields of d bytes
abbrev pub ReadsDataPacket : ℕ → List ℕ → JoinerEvent → Type 0
ReadsDataPacket d bytes (Received p) = IsPacket d p bytes
ReadsDataPacket d bytes (Broken fault) = IsFault d fault bytes
ReadsDataPacket d bytes Gap = ⊥

-- a unit that was begun: its bytes so far, and the continuity of its last packet
pub record OpenUnit : Type 0 where
  pub bytes : List ℕ
  pub continuity : ℕ

-- A joiner: its packet id, its data length, the bytes for which it has room since it was made, and the unit that is open.
pub record JoinerState : Type 0 where
  pub id : ℕ
  pub length : ℕ
  pub room : ℕ
  pub begun : Option OpenUnit

-- a new joiner
abbrev pub made : ℕ → ℕ → JoinerState
made id d = record { id = id; length = d; room = most_unit; begun = None }

-- what is said of an event
pub data JoinerAnswer : Type 0 where
  Silent : JoinerAnswer
  Whole : List ℕ → JoinerAnswer
  CutOff : JoinerAnswer
  CutWhole : List ℕ → JoinerAnswer
  Refuses : DataFault → Bool → JoinerAnswer

-- the packet is the next one of the unit
abbrev pub goes_on : OpenUnit → PacketFields → Bool
goes_on u p =
    not p.first && ((p.continuity == next_continuity u.continuity) && nat_le (length u.bytes + length p.useful) most_unit)

-- the packet is a unit by itself
abbrev pub is_unit : PacketFields → Bool
is_unit p = p.first && p.last

-- the unit that a packet begins and doesn't end
abbrev pub begun_by : PacketFields → Option OpenUnit
begun_by p =
    if p.first && not p.last then Some (record { bytes = p.useful; continuity = p.continuity }) else None

-- what a packet of the id makes of the unit that is open, if one is
abbrev pub begun_after : Option OpenUnit → PacketFields → Option OpenUnit
begun_after None p = begun_by p
begun_after (Some u) p =
    if goes_on u p then (if p.last then None else Some (record { bytes = u.bytes ++ p.useful; continuity = p.continuity }))
    else begun_by p

-- what is said of a packet of the id
abbrev pub answer_after : Option OpenUnit → PacketFields → JoinerAnswer
answer_after None p = if is_unit p then Whole p.useful else Silent
answer_after (Some u) p =
    if goes_on u p then (if p.last then Whole (u.bytes ++ p.useful) else Silent)
    else (if is_unit p then CutWhole p.useful else CutOff)

-- what is said where the open unit is cut, if one is
abbrev pub cut_answer : Option OpenUnit → JoinerAnswer
cut_answer None = Silent
cut_answer (Some u) = CutOff

abbrev pub answer : JoinerState → JoinerEvent → JoinerAnswer
answer s (Received p) = if p.id == s.id then answer_after s.begun p else Silent
answer s (Broken fault) = Refuses fault (is_some s.begun)
answer s Gap = cut_answer s.begun

-- with no unit open
abbrev pub closed : JoinerState → JoinerState
closed s = record s { begun = None }

-- the joiner after an event
abbrev pub after : JoinerState → JoinerEvent → JoinerState
after s (Received p) = if p.id == s.id then record s { begun = begun_after s.begun p } else s
after s (Broken fault) = closed s
after s Gap = closed s

-- what a call answers
abbrev pub answer_of : Joined → JoinerAnswer
answer_of Nothing = Silent
answer_of (OneUnit bytes) = Whole bytes.now
answer_of Cut = CutOff
answer_of (CutUnit bytes) = CutWhole bytes.now
answer_of (Refused fault cut) = Refuses fault cut

-- The bytes are one event, and the call answered by it.
abbrev pub TakesEvent : JoinerState → List ℕ → Joined → Type 0
TakesEvent s bytes result = (event : JoinerEvent) × ReadsDataPacket s.length bytes event × (answer_of result ≡ answer s event)

-- The room for one unit, and what stands in it.
use Rattle.std.specs.Prelude.{ℕ, ◌≡◌, ◌≤◌, ◌<◌, Bool, true, false, if◌then◌else◌, List, ◌++◌, length, take, Option, None, Some, IfSome}
use Rattle.drm_data.specs.declared.unit_buffer.OpenUnit.{OpenUnit as CodeBegun}
use Rattle.drm_data.specs.declared.unit_buffer.UnitBuffer.{UnitBuffer}
use Rattle.drm_data.specs.declared.unit_buffer.JoinStep.{JoinStep}
use Rattle.drm_data.specs.declared.unit_buffer.JoinStep.TheVariants.{Nothing, Unit as OneUnit, Cut, CutUnit}
use Rattle.drm_data.specs.declared.joiner.Joiner.TheInside.{Inside}
use Rattle.drm_data.specs.PacketFields.{PacketFields}
use Rattle.drm_data.specs.Units.{most_unit}
use Rattle.drm_data.specs.Joining.{OpenUnit, JoinerState, is_unit, JoinerAnswer, Silent, Whole, CutOff, CutWhole}

-- the unit whose bytes stand in front
abbrev pub begun_of : List ℕ → Option CodeBegun → Option OpenUnit
begun_of bytes None = None
begun_of bytes (Some b) = Some (record { bytes = take b.len bytes; continuity = b.continuity })

abbrev pub begun_in : UnitBuffer → Option OpenUnit
begun_in r = begun_of r.bytes.items r.begun

-- There is room for the longest unit, and the open one lies in it.
pub record IsUnitBuffer (r : UnitBuffer) : Type 0 where
  pub room : length r.bytes.items ≡ most_unit
  pub within : IfSome r.begun (λ b. b.len ≤ most_unit)

-- what a step says, with the bytes in front
abbrev pub said : JoinStep → List ℕ → JoinerAnswer
said Nothing bytes = Silent
said (OneUnit len) bytes = Whole (take len bytes)
said Cut bytes = CutOff
said (CutUnit len) bytes = CutWhole (take len bytes)

-- what a packet makes of a unit with these bytes, with which it goes on
abbrev pub begun_with : List ℕ → PacketFields → Option OpenUnit
begun_with bytes p = if p.last then None else Some (record { bytes = bytes ++ p.useful; continuity = p.continuity })

abbrev pub answer_with : List ℕ → PacketFields → JoinerAnswer
answer_with bytes p = if p.last then Whole (bytes ++ p.useful) else Silent

-- what is said of a packet that goes on with none, where one was cut and where none was
abbrev pub answer_new : Bool → PacketFields → JoinerAnswer
answer_new true p = if is_unit p then CutWhole p.useful else CutOff
answer_new false p = if is_unit p then Whole p.useful else Silent

-- a unit that is whole lies in the room
abbrev pub LiesIn : JoinStep → ℕ → Type 0
LiesIn (OneUnit len) room = len ≤ room
LiesIn (CutUnit len) room = len ≤ room
LiesIn other room = Unit {0}

-- a joiner's fields as data, and what holds of them
abbrev pub state : Inside → JoinerState
state j = record { id = j.id; length = j.length; room = length j.room.bytes.items; begun = begun_in j.room }

pub record JoinerInvariant (j : Inside) : Type 0 where
  pub id : j.id < 4
  pub some : 1 ≤ j.length
  pub room : IsUnitBuffer j.room

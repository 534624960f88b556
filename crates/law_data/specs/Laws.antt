-- The laws of joining packets.
use Rattle.std.specs.Prelude.{ℕ, ◌≡◌, ◌+◌, ◌<◌, ◌≤◌, ◌↔◌, Bool, true, List, [], ◌∷◌, ◌++◌, length, Option, Some, None, is_some}
use Rattle.std.specs.List.{AllByRecursion}
use Rattle.std.specs.Int.{from_bool}
use Rattle.drm_bits.specs.Bits.{IsBytes}
use Rattle.drm_data.specs.PacketFields.{PacketFields}
use Rattle.drm_data.specs.Units.{packets}
use Rattle.drm_data.specs.Writing.{IsWrittenPacket}
use Rattle.drm_data.specs.Joining.{JoinerEvent, Received, ReadsDataPacket, JoinerState, made, answer}
use Rattle.law_data.specs.Readings.{AreEvents, IsUnitOpen, EventEndsUnit, AreUnits, EventCutsUnit}
use Rattle.law_data.specs.Runs.{answers, after_all, unit_in, tells_cut, units_in, cuts_in, begun_count}
use Rattle.law_data.specs.Losses.{IsUnit, kept_of, whole_units, cut_count}

-- bytes are one event
abbrev pub OneEvent : Type 0
OneEvent = (d : ℕ) (bytes : List ℕ) (first second : JoinerEvent) → ReadsDataPacket d bytes first → ReadsDataPacket d bytes second → first ≡ second

-- Bytes are a packet, or are refused.
abbrev pub SomeEvent : Type 0
SomeEvent = (d : ℕ) (bytes : List ℕ) → 1 ≤ d → IsBytes bytes → (event : JoinerEvent) × ReadsDataPacket d bytes event

-- What is written of a packet is read as that packet, and as nothing else.
abbrev pub WrittenUnitsAreRead : Type 0
WrittenUnitsAreRead = (d : ℕ) (p : PacketFields) (bytes : List ℕ) (event : JoinerEvent) → IsWrittenPacket d p bytes → ReadsDataPacket d bytes event ↔ (event ≡ Received p)

-- Of every reading a joiner gives the units that are in it, and no others.
abbrev pub JoinsUnits : Type 0
JoinsUnits =
    (id d : ℕ) (reading : List (Option (List ℕ))) (events : List JoinerEvent) (units : List (List ℕ))
    → d < 256 → AreEvents d reading events
    → AreUnits id [] events units ↔ (units ≡ units_in (answers (made id d) events))

-- In every reading, at each event: a joiner gives a unit exactly where the event ends one, and tells a cut exactly where a unit was
-- open and the event cuts it.
pub record AnswersRight (id : ℕ) (before : List JoinerEvent) (s : JoinerState) (e : JoinerEvent) : Type 0 where
  pub unit : (unit : List ℕ) → (unit_in (answer s e) ≡ Some unit) ↔ EventEndsUnit id before e unit
  pub cut : (tells_cut (answer s e) ≡ true) ↔ ((ps : List PacketFields) × IsUnitOpen id before ps × EventCutsUnit id ps e)

abbrev pub AnswersEach : Type 0
AnswersEach =
    (id d : ℕ) (reading : List (Option (List ℕ))) (before more : List JoinerEvent) (e : JoinerEvent)
    → d < 256 → AreEvents d reading (before ++ e ∷ more)
    → AnswersRight id before (after_all (made id d) before) e

-- At each place of every reading a joiner has a unit open exactly where one is open.
abbrev pub KnowsOpen : Type 0
KnowsOpen =
    (id d : ℕ) (reading : List (Option (List ℕ))) (events : List JoinerEvent)
    → d < 256 → AreEvents d reading events
    → (is_some (after_all (made id d) events).begun ≡ true) ↔ ((ps : List PacketFields) × IsUnitOpen id events ps)

-- In every reading each unit that is begun is given, or its cut is told, once; but for the one that is open at the end.
abbrev pub TellsEachOnce : Type 0
TellsEachOnce =
    (id d : ℕ) (events : List JoinerEvent)
    → begun_count id events
    ≡ length (units_in (answers (made id d) events)) + cuts_in (answers (made id d) events)
    + from_bool (is_some (after_all (made id d) events).begun)

-- Of the packets of units, some of which are lost with a gap in place of each, a joiner gives exactly the units of which none is lost,
-- and tells one cut for each other unit whose first packet came. At the end no unit is open.
abbrev pub GivesWhatIsWhole : Type 0
GivesWhatIsWhole =
    (id d : ℕ) (units : List (List ℕ)) (kept : List Bool)
    → 1 ≤ d → AllByRecursion IsUnit units → length kept ≡ length (packets id d units)
    → (units_in (answers (made id d) (kept_of kept (packets id d units))) ≡ whole_units d kept units)
    × (cuts_in (answers (made id d) (kept_of kept (packets id d units))) ≡ cut_count d kept units)
    × ((after_all (made id d) (kept_of kept (packets id d units))).begun ≡ None)

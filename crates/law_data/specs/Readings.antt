-- Readings of a stream's packets: the units in them, and which of them is open where. No joiner is spoken of here.
use Rattle.std.specs.Prelude.{ℕ, ◌≡◌, ◌≢◌, ◌+◌, ◌<◌, ◌≤◌, ◌==◌, ◌⊎◌, true, false, if◌then◌else◌, List, [], ◌∷◌, ◌++◌, length, Option, Some, None}
use Rattle.std.specs.List.{AllByRecursion}
use Rattle.drm_data.specs.PacketFields.{PacketFields}
use Rattle.drm_data.specs.Units.{most_unit, next_continuity}
use Rattle.drm_data.specs.Joining.{JoinerEvent, Received, Broken, Gap, ReadsDataPacket}

-- A reading is a list of packets, as bytes, and gaps. These are its events, with data fields of d bytes.
abbrev pub AreEvents : ℕ → List (Option (List ℕ)) → List JoinerEvent → Type 0
AreEvents d [] events = events ≡ []
AreEvents d (x ∷ reading) [] = ⊥
AreEvents d (Some bytes ∷ reading) (e ∷ events) = ReadsDataPacket d bytes e × AreEvents d reading events
AreEvents d (None ∷ reading) (e ∷ events) = (e ≡ Gap) × AreEvents d reading events

abbrev pub IsAPacket : JoinerEvent → Type 0
IsAPacket (Received p) = Unit {0}
IsAPacket (Broken fault) = ⊥
IsAPacket Gap = ⊥

-- the packets of an id
abbrev pub of_id_at : ℕ → JoinerEvent → List PacketFields
of_id_at id (Received p) = if p.id == id then p ∷ [] else []
of_id_at id (Broken fault) = []
of_id_at id Gap = []

abbrev pub of_id : ℕ → List JoinerEvent → List PacketFields
of_id id [] = []
of_id id (e ∷ events) = of_id_at id e ++ of_id id events

-- the useful bytes of packets together
abbrev pub bytes_of : List PacketFields → List ℕ
bytes_of [] = []
bytes_of (p ∷ ps) = p.useful ++ bytes_of ps

-- the continuity of the last of these packets, or that of the one before them
abbrev pub continuity_behind : ℕ → List PacketFields → ℕ
continuity_behind continuity [] = continuity
continuity_behind continuity (p ∷ ps) = continuity_behind p.continuity ps

abbrev pub continuity_of : List PacketFields → ℕ
continuity_of [] = 0
continuity_of (p ∷ ps) = continuity_behind p.continuity ps

-- each has a continuity that is one more than that of the packet before it
abbrev pub ContinuitiesFollow : ℕ → List PacketFields → Type 0
ContinuitiesFollow continuity [] = Unit {0}
ContinuitiesFollow continuity (p ∷ ps) = (p.continuity ≡ next_continuity continuity) × ContinuitiesFollow p.continuity ps

abbrev pub IsNotFirst : PacketFields → Type 0
IsNotFirst p = p.first ≡ false

abbrev pub IsNotLast : PacketFields → Type 0
IsNotLast p = p.last ≡ false

-- packets that are a unit, or the front of one: the first alone has first, they follow one another, and the bytes are few enough
abbrev pub AreChained : List PacketFields → Type 0
AreChained [] = ⊥
AreChained (p ∷ ps) =
    (p.first ≡ true) × AllByRecursion IsNotFirst ps × ContinuitiesFollow p.continuity ps × (length (bytes_of (p ∷ ps)) ≤ most_unit)

-- A reading ends in these packets of the id: no gap and nothing refused stands between them. Packets of other ids are passed over.
pub record EndsIn (id : ℕ) (events : List JoinerEvent) (ps : List PacketFields) : Type 0 where
  pub front : List JoinerEvent
  pub stretch : List JoinerEvent
  pub all : events ≡ front ++ stretch
  pub unbroken : AllByRecursion IsAPacket stretch
  pub mine : of_id id stretch ≡ ps

-- After these events a unit is open, of which these packets have come.
pub record IsUnitOpen (id : ℕ) (events : List JoinerEvent) (ps : List PacketFields) : Type 0 where
  pub ends : EndsIn id events ps
  pub chained : AreChained ps
  pub going : AllByRecursion IsNotLast ps

-- Behind these events a packet ends a unit: it is the last one of a stretch, and alone has last.
pub record EndsUnit (id : ℕ) (events : List JoinerEvent) (p : PacketFields) (unit : List ℕ) : Type 0 where
  pub mine : p.id ≡ id
  pub before : List PacketFields
  pub ends : EndsIn id events before
  pub chained : AreChained (before ++ p ∷ [])
  pub going : AllByRecursion IsNotLast before
  pub last : p.last ≡ true
  pub unit_is : unit ≡ bytes_of (before ++ p ∷ [])

-- behind these events the event ends this unit
abbrev pub EventEndsUnit : ℕ → List JoinerEvent → JoinerEvent → List ℕ → Type 0
EventEndsUnit id events (Received p) unit = EndsUnit id events p unit
EventEndsUnit id events (Broken fault) unit = ⊥
EventEndsUnit id events Gap unit = ⊥

-- the units that end in these events behind those before, in order: at each event the one that it ends, if there is one
abbrev pub AreUnits : ℕ → List JoinerEvent → List JoinerEvent → List (List ℕ) → Type 0
AreUnits id before [] units = units ≡ []
AreUnits id before (e ∷ events) units =
    ((unit : List ℕ) × (more : List (List ℕ)) × EventEndsUnit id before e unit × (units ≡ unit ∷ more) × AreUnits id (before ++ e ∷ []) events more)
    ⊎ (((unit : List ℕ) → EventEndsUnit id before e unit → ⊥) × AreUnits id (before ++ e ∷ []) events units)

-- The event cuts the unit of which these packets have come: it is a gap or is refused, or it is a packet of the id that has first,
-- or another continuity than is due, or brings too many bytes.
abbrev pub EventCutsUnit : ℕ → List PacketFields → JoinerEvent → Type 0
EventCutsUnit id ps (Received p) =
    (p.id ≡ id)
    × ((p.first ≡ true) ⊎ ((p.continuity ≢ next_continuity (continuity_of ps)) ⊎ (most_unit < length (bytes_of ps) + length p.useful)))
EventCutsUnit id ps (Broken fault) = Unit {0}
EventCutsUnit id ps Gap = Unit {0}

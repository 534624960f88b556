-- The datagrams of a schedule: the packet of each frame, whole or cut into fragments (TS 102 821).
use Rattle.std.specs.Prelude.{ℕ, zero, suc, ◌≡◌, ◌+◌, ◌<◌, ◌≤◌, All, List, [], ◌∷◌, ◌++◌, length}
use Rattle.drm_schedule.specs.declared.plan.Plan.{Plan}
use Rattle.drm_timeline.specs.Numbers.{sequence_number}
use Rattle.dcp_pft.specs.Limits.{most_packet}
use Rattle.dcp_pft.specs.Carrying.{datagram_count, CarriesPacket}
use Rattle.drm_server.specs.declared.stretch.Stretch.{Stretch}
use Rattle.drm_server.specs.Stretch.{first_in, frames_in}
use Rattle.drm_server.specs.Frames.{IsPacketAt}

-- The packet of frame t is carried by so many datagrams.
pub record HasDatagrams (plan : Plan) (t count : ℕ) : Type 0 where
  pub packet : List ℕ
  pub is_packet : IsPacketAt plan t packet
  pub is : count ≡ datagram_count plan.carry (length packet)

-- the packet of frame t is carried by more than i datagrams
abbrev pub HasDatagram : Plan → ℕ → ℕ → Type 0
HasDatagram plan t i = (count : ℕ) × HasDatagrams plan t count × (i < count)

-- datagram i of frame t
pub record IsDatagramAt (plan : Plan) (t i : ℕ) (datagram : List ℕ) : Type 0 where
  pub packet : List ℕ
  pub is_packet : IsPacketAt plan t packet
  pub within : i < datagram_count plan.carry (length packet)
  pub is : CarriesPacket plan.carry (sequence_number plan t) packet i datagram

-- the first i datagrams of frame t
abbrev pub AreFirst : Plan → ℕ → ℕ → List (List ℕ) → Type 0
AreFirst plan t zero datagrams = datagrams ≡ []
AreFirst plan t (suc i) datagrams =
    (before : List (List ℕ)) × (datagram : List ℕ) × AreFirst plan t i before × IsDatagramAt plan t i datagram × (datagrams ≡ before ++ datagram ∷ [])

-- the datagrams of frame t
abbrev pub AreOfFrame : Plan → ℕ → List (List ℕ) → Type 0
AreOfFrame plan t datagrams = (count : ℕ) × HasDatagrams plan t count × AreFirst plan t count datagrams

-- These are the datagrams of frame t: one or more, none of them longer than a packet may be.
pub record CarriesFrame (plan : Plan) (t : ℕ) (datagrams : List (List ℕ)) : Type 0 where
  pub are : AreOfFrame plan t datagrams
  pub some : 1 ≤ length datagrams
  pub in_range : All (λ bytes. length bytes ≤ most_packet plan.carry) datagrams

-- the datagrams of n frames, the first of which is frame `first`
abbrev pub AreOfFrames : Plan → ℕ → ℕ → List (List ℕ) → Type 0
AreOfFrames plan first zero datagrams = datagrams ≡ []
AreOfFrames plan first (suc n) datagrams =
    (before : List (List ℕ)) × (of_frame : List (List ℕ)) × AreOfFrames plan first n before × AreOfFrame plan (first + n) of_frame × (datagrams ≡ before ++ of_frame)

-- the datagrams of those frames of a schedule that are sent
abbrev pub AreDatagrams : Plan → Stretch → List (List ℕ) → Type 0
AreDatagrams plan stretch datagrams = AreOfFrames plan (first_in stretch) (frames_in stretch plan) datagrams

-- Those of them that stand before a certain one: those of the n frames before its frame, and those of its frame before it.
pub record AreBefore (plan : Plan) (stretch : Stretch) (next : List ℕ) (datagrams : List (List ℕ)) : Type 0 where
  pub n : ℕ
  pub within : n < frames_in stretch plan
  pub i : ℕ
  pub is_next : IsDatagramAt plan (first_in stretch + n) i next
  pub of_frames : List (List ℕ)
  pub are_of_frames : AreOfFrames plan (first_in stretch) n of_frames
  pub of_frame : List (List ℕ)
  pub are_first : AreFirst plan (first_in stretch + n) i of_frame
  pub are : datagrams ≡ of_frames ++ of_frame

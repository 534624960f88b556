-- What a feed gives of what a collector gives.
use Rattle.std.specs.Prelude.{ℕ, ◌≡◌, List, Option, Some, None, nat_eq, if◌then◌else◌}
use Rattle.dcp_af.specs.Packet.{AfPacket, IsAf}
use Rattle.dcp_af.specs.Faults.{IsFault}
use Rattle.dcp_collect.specs.Runs.{CollectorItem as Given, Packet, Lost, Damaged}
use Rattle.drm_reconfiguration.specs.declared.seen.Seen.{Seen}
use Rattle.drm_reconfiguration.specs.Seen.{signature_of}
use Rattle.mdi_items.specs.Frame.{Frame as MdiFrame, frame_of}
use Rattle.mdi_items.specs.Mdi.{IsMdi, IsMdiFault}
use Rattle.mdi_items.specs.View.{IsWholeView}
use Rattle.mod_feed.specs.declared.item.BadFault.{BadFault}
use Rattle.mod_feed.specs.declared.item.BadFault.TheVariants.{Code, Af, Mdi}
use Rattle.mod_feed.specs.declared.item.FeedItem.{FeedItem}
use Rattle.mod_feed.specs.declared.item.FeedItem.TheVariants as feed
use Rattle.mdi_items.specs.declared.fault.MdiFault.TheVariants as mdi
use Rattle.drm_mux.specs.declared.fault.MuxFault.TheVariants as mux
use Rattle.drm_sdc.specs.declared.fault.SdcFault.TheVariants as sdc

-- an item as data: a frame with the payload that it stands in, or what is said in its place
pub data FrameItem : Type 0 where
  Frame : (index : ℕ) (frame : MdiFrame) (payload : List ℕ) → FrameItem
  Missing : (index had total : ℕ) → FrameItem
  Bad : (index : ℕ) (fault : BadFault) → FrameItem

abbrev pub item_of : FeedItem → FrameItem
item_of (feed.Frame index view) = Frame index (frame_of view) view.payload.now
item_of (feed.Missing index had total) = Missing index had total
item_of (feed.Bad index fault) = Bad index fault

-- The bytes are an AF packet with this payload, and the payload is the frame.
abbrev pub CarriesFrame : MdiFrame → List ℕ → List ℕ → Type 0
CarriesFrame frame payload bytes = (af : AfPacket) × IsAf af bytes × (af.payload ≡ payload) × IsMdi frame payload

-- The bytes carry no frame, and this is why: they are no AF packet, or its payload is no frame.
abbrev pub CarriesNone : BadFault → List ℕ → Type 0
CarriesNone Code bytes = ⊥
CarriesNone (Af fault) bytes = IsFault fault bytes
CarriesNone (Mdi fault) bytes = (af : AfPacket) × IsAf af bytes × IsMdiFault af.payload fault

-- what a collector gives has this item
abbrev pub IsItemOf : Given → FrameItem → Type 0
IsItemOf (Packet index bytes) (Frame q frame payload) = (q ≡ index) × CarriesFrame frame payload bytes
IsItemOf (Packet index bytes) (Bad q fault) = (q ≡ index) × CarriesNone fault bytes
IsItemOf (Lost index had total) (Missing q some all) = (q ≡ index) × (some ≡ had) × (all ≡ total)
IsItemOf (Damaged index) (Bad q fault) = (q ≡ index) × (fault ≡ Code)
IsItemOf given item = ⊥

-- the number of what a collector gives
abbrev pub number_of : Given → ℕ
number_of (Packet index bytes) = index
number_of (Lost index had total) = index
number_of (Damaged index) = index

-- the place of a frame in its super frame: the first one has the identity 0 or 3
abbrev pub position_of : ℕ → ℕ
position_of identity = if nat_eq identity 3 then 0 else identity

-- what a receiver sees of a frame
abbrev pub shown_by : MdiFrame → Seen
shown_by frame = record {
  position = position_of frame.fac.channel.identity;
  index = frame.fac.channel.index;
  signature = signature_of frame.mode frame.fac.channel frame.mux;
}

-- what is seen in an item
abbrev pub seen_in : FrameItem → Option Seen
seen_in (Frame index frame payload) = Some (shown_by frame)
seen_in item = None

-- a fault that reading can meet: it compares no length of a whole multiplex frame, and takes no memory
abbrev pub IsOfReading : BadFault → Type 0
IsOfReading (Mdi (mdi.Mux (mux.FrameLength stands described))) = ⊥
IsOfReading (Mdi (mdi.Sdc sdc.NoMemory)) = ⊥
IsOfReading fault = Unit {0}

-- What reading gives: a frame whose pieces can be lent out of its payload, or a fault that reading can meet.
abbrev pub IsReadItem : FeedItem → Type 0
IsReadItem (feed.Frame index view) = IsWholeView view
IsReadItem (feed.Missing index had total) = Unit {0}
IsReadItem (feed.Bad index fault) = IsOfReading fault

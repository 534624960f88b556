-- Frames whose stream is the packets of units, some of which are lost.
use Rattle.std.specs.Prelude.{ℕ, ◌≡◌, Bool, true, false, ◌||◌, List, [], ◌∷◌, ◌++◌, length, map, replicate, None, Some}
use Rattle.drm_data.specs.PacketFields.{PacketFields, IsPacket}
use Rattle.drm_data.specs.Joining.{JoinerEvent, Received, Gap}
use Rattle.mod_feed.specs.Items.{FrameItem}
use Rattle.cmd_unpack.specs.Streams.{PayloadKind, entries_at}

-- the packets in the stream of a frame, and whether the frame is given
pub record FramePackets : Type 0 where
  pub given : Bool
  pub packets : List PacketFields

-- what comes of it: its packets, or one gap in its place
abbrev pub packets_or_gap : Bool → List PacketFields → List JoinerEvent
packets_or_gap true ps = map Received ps
packets_or_gap false ps = Gap ∷ []

abbrev pub events_of : List FramePackets → List JoinerEvent
events_of [] = []
events_of (frame ∷ frames) = packets_or_gap frame.given frame.packets ++ events_of frames

-- the packets of all frames
abbrev pub packets_of : List FramePackets → List PacketFields
packets_of [] = []
packets_of (frame ∷ frames) = frame.packets ++ packets_of frames

-- Which packets of a frame are kept: all, if it is given; but if a frame was lost behind the packet before them, the first of them only
-- where it begins a unit.
abbrev pub kept_in : (unbroken given : Bool) → List PacketFields → List Bool
kept_in unbroken false ps = replicate (length ps) false
kept_in unbroken true [] = []
kept_in unbroken true (p ∷ ps) = (unbroken || p.first) ∷ replicate (length ps) true

-- whether no frame was lost behind the last packet
abbrev pub unbroken_behind : (unbroken given : Bool) → List PacketFields → Bool
unbroken_behind unbroken false ps = false
unbroken_behind unbroken true [] = unbroken
unbroken_behind unbroken true (p ∷ ps) = true

abbrev pub kept_from : Bool → List FramePackets → List Bool
kept_from unbroken [] = []
kept_from unbroken (frame ∷ frames) =
    kept_in unbroken frame.given frame.packets ++ kept_from (unbroken_behind unbroken frame.given frame.packets) frames

-- Which packets are kept: all packets of a unit are exactly where each frame is given from that of its first packet to that of its last.
abbrev pub kept_of : List FramePackets → List Bool
kept_of frames = kept_from true frames

-- these bytes are these packets, one after another
abbrev pub ArePackets : ℕ → List (List ℕ) → List PacketFields → Type 0
ArePackets d [] ps = ps ≡ []
ArePackets d (bytes ∷ pieces) [] = ⊥
ArePackets d (bytes ∷ pieces) (p ∷ ps) = IsPacket d p bytes × ArePackets d pieces ps

-- An item brings a frame: its stream is the packets; or it is a gap, where the frame isn't given.
abbrev pub ItemBringsFrame : PayloadKind → ℕ → Bool → FrameItem → List PacketFields → Type 0
ItemBringsFrame what d true item ps = (pieces : List (List ℕ)) × (entries_at what item ≡ map Some pieces) × ArePackets d pieces ps
ItemBringsFrame what d false item ps = entries_at what item ≡ None ∷ []

-- each item brings its frame
abbrev pub BringAll : PayloadKind → ℕ → List FrameItem → List FramePackets → Type 0
BringAll what d [] frames = frames ≡ []
BringAll what d (item ∷ items) [] = ⊥
BringAll what d (item ∷ items) (frame ∷ frames) = ItemBringsFrame what d frame.given item frame.packets × BringAll what d items frames

-- What is sent and written of a schedule is determined by it.
use Rattle.std.specs.Prelude.{ℕ, ◌≡◌, List, ◌∷◌, ◌++◌, Some}
use Rattle.drm_mux.specs.Frame.{multiplex_frame}
use Rattle.mdi_items.specs.RoundTrip.{Parts}
use Rattle.drm_schedule.specs.declared.plan.Plan.{Plan}
use Rattle.drm_schedule.specs.Valid.{IsSchedule}
use Rattle.drm_server.specs.declared.stretch.Stretch.{Stretch}
use Rattle.drm_server.specs.Frames.{IsFrameAt, IsPacketAt}
use Rattle.drm_server.specs.Multiplex.{multiplex_at}
use Rattle.drm_server.specs.Datagrams.{AreDatagrams, AreBefore}
use Rattle.drm_server.specs.Capture.{IsCapture}

-- what a frame is made of is determined
abbrev pub HasOneFrame : Type 0
HasOneFrame = (plan : Plan) (t : ℕ) (parts others : Parts) → IsFrameAt plan t parts → IsFrameAt plan t others → parts ≡ others

-- the packet of a frame is determined
abbrev pub HasOnePacket : Type 0
HasOnePacket = (plan : Plan) (t : ℕ) (packet other : List ℕ) → IsPacketAt plan t packet → IsPacketAt plan t other → packet ≡ other

-- the datagrams of the frames of a schedule that are sent are determined
abbrev pub HasOneDelivery : Type 0
HasOneDelivery =
    (plan : Plan) (stretch : Stretch) (datagrams others : List (List ℕ)) → AreDatagrams plan stretch datagrams → AreDatagrams plan stretch others → datagrams ≡ others

-- those before one of them are their front, and it is the next
abbrev pub FirstOnesArePrefix : Type 0
FirstOnesArePrefix =
    (plan : Plan) (stretch : Stretch) (datagrams before : List (List ℕ)) (next : List ℕ) → AreDatagrams plan stretch datagrams → AreBefore plan stretch next before
    → (behind : List (List ℕ)) × (datagrams ≡ before ++ next ∷ behind)

-- and so is the capture
abbrev pub HasOneCapture : Type 0
HasOneCapture = (plan : Plan) (stretch : Stretch) (bytes others : List ℕ) → IsCapture plan stretch bytes → IsCapture plan stretch others → bytes ≡ others

-- the streams that a frame is made of make the frame's multiplex frame
abbrev pub HasMultiplexFrame : Type 0
HasMultiplexFrame =
    (plan : Plan) (t : ℕ) (parts : Parts) → IsSchedule plan → IsFrameAt plan t parts → multiplex_at plan t ≡ Some (multiplex_frame parts.mux parts.streams)

-- What is unpacked of a delivery of a schedule, a stream of which carries units.
use Rattle.std.specs.Prelude.{ℕ, ℤ, pos, negsuc, ◌-ℤ◌, ◌≡◌, ◌+◌, ◌-◌, ◌*◌, ◌/◌, ◌≤◌, nat_lt, Bool, false, ◌&&◌, List, [], ◌∷◌, ◌++◌, length, map, slice_get, Option, None, Some}
use Rattle.std.specs.List.{AllByRecursion}
use Rattle.drm_schedule.specs.declared.config.Config.{Config}
use Rattle.drm_schedule.specs.declared.plan.Plan.{Plan}
use Rattle.drm_schedule.specs.Valid.{IsSchedule}
use Rattle.drm_timeline.specs.Standing.{config_of}
use Rattle.drm_timeline.specs.Numbers.{frame_count}
use Rattle.drm_schedule.specs.Contents.{stream_bytes}
use Rattle.dcp_pft.specs.Loss.{is_recoverable}
use Rattle.dcp_collect.specs.declared.taken.Taken.{Taken}
use Rattle.dcp_collect.specs.Numbers.{end_of}
use Rattle.dcp_collect.specs.Runs.{CollectorItem as Collected, CollectorRun}
use Rattle.law_collect.specs.Delivery.{got, newest_of}
use Rattle.law_delivery.specs.Sent.{Arrival, pairs_in, shape_at, IsDeliveryOf}
use Rattle.drm_data.specs.PacketFields.{PacketFields}
use Rattle.drm_data.specs.Units.{packets}
use Rattle.law_data.specs.Losses.{IsUnit}
use Rattle.mod_feed.specs.Items.{FrameItem}
use Rattle.cmd_unpack.specs.Streams.{UnitsOf, pieces_in}
use Rattle.cmd_unpack.specs.Printed.{AreItems, IsWholeText}
use Rattle.law_unpack.specs.Frames.{FramePackets, ArePackets}
use Rattle.law_unpack.specs.Laws.{UnpacksTo}

-- In frame t of the schedule the stream with this number has these bytes.
pub record IsStreamAt (plan : Plan) (k t : ℕ) (bytes : List ℕ) : Type 0 where
  pub config : Config
  pub holds : config_of plan (t / 3) ≡ Some config
  pub is : slice_get (map (stream_bytes (t - 3 * config.start)) config.streams) k ≡ Some bytes

-- They are these packets of data, one after another, or none.
pub record CarriesAt (plan : Plan) (k id d t : ℕ) (ps : List PacketFields) : Type 0 where
  pub bytes : List ℕ
  pub stream : IsStreamAt plan k t bytes
  pub pieces : List (List ℕ)
  pub cut : pieces_in (UnitsOf k id d) bytes ≡ Some pieces
  pub are : ArePackets d pieces ps

-- the frames from t on carry these, each its own
abbrev pub CarryFrom : Plan → ℕ → ℕ → ℕ → ℕ → List (List PacketFields) → Type 0
CarryFrom plan k id d t [] = Unit {0}
CarryFrom plan k id d t (ps ∷ frames) = CarriesAt plan k id d t ps × CarryFrom plan k id d (t + 1) frames

-- the packets of all frames
abbrev pub together : List (List PacketFields) → List PacketFields
together [] = []
together (ps ∷ frames) = ps ++ together frames

-- The frames of the schedule, with the packets that each carries: together they are those of the units.
pub record CarriesUnits (plan : Plan) (k id d : ℕ) (units : List (List ℕ)) (frames : List (List PacketFields)) : Type 0 where
  pub some_length : 1 ≤ d
  pub are_units : AllByRecursion IsUnit units
  pub all : length frames ≡ frame_count plan
  pub carry : CarryFrom plan k id d 0 frames
  pub packets_are : together frames ≡ packets id d units

-- Whether frame t is given: its number is below the end, and its packet can be made again of what was got.
abbrev pub is_given_at : Plan → ℕ → ℤ → List (ℕ × ℕ) → (end t : ℕ) → ℤ → Bool
is_given_at plan window first_frame pairs end t (pos q) = nat_lt q end && is_recoverable (shape_at plan t) (got window first_frame pairs q)
is_given_at plan window first_frame pairs end t (negsuc n) = false

abbrev pub is_given : Plan → ℕ → ℤ → List (ℕ × ℕ) → (end t : ℕ) → Bool
is_given plan window first_frame pairs end t = is_given_at plan window first_frame pairs end t (pos t -ℤ first_frame)

-- the frames from t on, each with its packets, and whether it is given
abbrev pub carried_from : Plan → ℕ → ℤ → List (ℕ × ℕ) → (end t : ℕ) → List (List PacketFields) → List FramePackets
carried_from plan window first_frame pairs end t [] = []
carried_from plan window first_frame pairs end t (ps ∷ frames) =
    record { given = is_given plan window first_frame pairs end t; packets = ps } ∷ carried_from plan window first_frame pairs end (t + 1) frames

-- all of them, where a reading ends at the told number, or behind the newest one
abbrev pub carried_by : Plan → ℕ → ℤ → Option ℕ → List (ℕ × ℕ) → List (List PacketFields) → List FramePackets
carried_by plan window first_frame frame_limit pairs frames = carried_from plan window first_frame pairs (end_of frame_limit (newest_of first_frame None pairs)) 0 frames

-- Of a delivery of such a schedule, with any foreign datagrams in it, what is printed gives exactly those units for which each frame is given from
-- that of the first packet to that of the last, and tells one cut for each other unit whose first packet came.
abbrev pub UnpacksDeliveries : Type 0
UnpacksDeliveries =
    (plan : Plan) (window reach : ℕ) (first frame_limit : Option ℕ) (first_frame : ℤ) (arrivals : List Arrival) (datagrams : List (List ℕ))
    (answers : List Taken) (collected : List Collected)
    (k id d : ℕ) (units : List (List ℕ)) (frames : List (List PacketFields)) (items : List FrameItem) (text : List ℕ) (clean : Bool)
    → IsSchedule plan → 1 ≤ window → IsDeliveryOf plan reach first first_frame arrivals datagrams → CarriesUnits plan k id d units frames
    → CollectorRun window reach first frame_limit datagrams answers collected → AreItems collected items → IsWholeText (UnitsOf k id d) items text clean
    → UnpacksTo k id d units (carried_by plan window first_frame frame_limit (pairs_in arrivals) frames) items text clean

-- What becomes of a delivery of a schedule, where each frame is in time.
use Rattle.std.specs.Prelude.{ℕ, pos, ◌≡◌, ◌<◌, ◌≤◌, ◌%◌, ◌^◌, ◌⊎◌, Bool, true, false, List, [], ◌∷◌, ◌++◌, length, Option, None, Some, Result, Ok, Err}
use Rattle.std.specs.List.{concat}
use Rattle.dcp_pft.specs.declared.carry.Carry.{Carry}
use Rattle.dcp_pft.specs.Limits.{most_packet}
use Rattle.dcp_pft.specs.Carrying.{CarryFits}
use Rattle.dcp_collect.specs.declared.taken.Taken.{Taken}
use Rattle.dcp_collect.specs.CollectorState.{CollectorState, made}
use Rattle.dcp_collect.specs.Runs.{CollectorItem, CollectorSteps, CollectorRun}
use Rattle.drm_links.specs.Known.{Known}
use Rattle.drm_links.specs.Source.{Input}
use Rattle.drm_links.specs.Sink.{Output, OutputsText}
use Rattle.drm_schedule.specs.declared.plan.Plan.{Plan}
use Rattle.drm_schedule.specs.Valid.{IsSchedule}
use Rattle.drm_timeline.specs.Numbers.{frame_count, packet_size}
use Rattle.drm_server.specs.Datagrams.{AreOfFrames}
use Rattle.drm_server.specs.Stretch.{whole_schedule}
use Rattle.drm_server.specs.Capture.{IsCapture, IsPrefixOfCapture}
use Rattle.law_delivery.specs.OtherCarry.{under}
use Rattle.law_delivery.specs.Sent.{Arrival, pairs_in, IsDeliveryOf, IsInTime}
use Rattle.capture_reader.specs.Capture.{IsCaptureOf, End}
use Rattle.cmd_faults.specs.declared.fault.Fault.{Fault}
use Rattle.cmd_faults.specs.declared.fault.Fault.TheVariants as faults
use Rattle.cmd_convert.specs.Converting.{ItemOutput, ConvertsAll, IsTooLarge, text_of, lines_of}
use Rattle.recv_reading.specs.Packets.{ComesAt, HasEnough}
use Rattle.recv_reading.specs.declared.options.PacketRange.{PacketRange}
use Rattle.recv_reading.specs.State.{is_full}
use Rattle.cmd_convert.specs.Run.{IsConversion, IsConversionBroken, ConvertEnds}
use Rattle.recv_reading.specs.First.{first_of}

-- A delivery of a valid schedule from its first frame on, with any foreign datagrams in it, in which each frame is in time.
pub record AllInTime (plan : Plan) (window reach : ℕ) (first : Option ℕ) (arrivals : List Arrival) (datagrams : List (List ℕ)) : Type 0 where
  pub schedule : IsSchedule plan
  pub some : 1 ≤ window
  pub followed : IsDeliveryOf plan reach first (pos 0) arrivals datagrams
  pub in_time : (q : ℕ) → q < frame_count plan → IsInTime plan window (pos 0) (pairs_in arrivals) q

-- the number of the schedule's frames is told, or no number is
abbrev pub MayBeFrameLimit : Plan → Option ℕ → Type 0
MayBeFrameLimit plan frame_limit = (frame_limit ≡ None) ⊎ (frame_limit ≡ Some (frame_count plan))

-- a number that has the sequence number of the schedule's first packet
abbrev pub IsFirstOf : Plan → ℕ → Type 0
IsFirstOf plan n = n % 2 ^ 16 ≡ plan.seq % 2 ^ 16

-- They are written as the schedule's capture under this carry, and no line names any of them.
abbrev pub IsItsCapture : Plan → Carry → List ItemOutput → Type 0
IsItsCapture plan carry parts = IsCapture (under carry plan) whole_schedule (text_of parts) × (lines_of parts ≡ [])

-- What a collector gives of such a delivery becomes the schedule's capture under the new carry.
abbrev pub Converting : Type 0
Converting =
    (plan : Plan) (carry : Carry) (window reach n : ℕ) (first frame_limit : Option ℕ) (arrivals : List Arrival) (datagrams : List (List ℕ))
    (answers : List Taken) (items : List CollectorItem) (parts : List ItemOutput)
    → AllInTime plan window reach first arrivals datagrams → MayBeFrameLimit plan frame_limit → CollectorRun window reach first frame_limit datagrams answers items
    → IsFirstOf plan n → ConvertsAll carry n items parts → IsItsCapture plan carry parts

-- The same where a reading ends as soon as all frames were given, whatever of the delivery is still to come.
abbrev pub ConvertingEarly : Type 0
ConvertingEarly =
    (plan : Plan) (carry : Carry) (window reach n : ℕ) (first : Option ℕ) (arrivals : List Arrival) (datagrams later : List (List ℕ))
    (answers : List Taken) (items : List CollectorItem) (parts : List ItemOutput)
    → AllInTime plan window reach first arrivals (datagrams ++ later) → (run : CollectorRun window reach first (Some (frame_count plan)) datagrams answers items)
    → frame_count plan ≤ length run.during
    → IsFirstOf plan n → ConvertsAll carry n items parts → IsItsCapture plan carry parts

-- the collector knows the sequence number that it counts from, and it is that of the schedule's first packet
abbrev pub KnowsFirst : Plan → CollectorState → Type 0
KnowsFirst plan c = (n : ℕ) × (c.first ≡ Some n) × IsFirstOf plan n

-- So does each collector that has given anything of a delivery that starts with the schedule's first frame, whatever of it is
-- still to come.
abbrev pub FirstIsKnown : Type 0
FirstIsKnown =
    (plan : Plan) (window reach : ℕ) (first : Option ℕ) (arrivals : List Arrival) (datagrams later : List (List ℕ))
    (answers : List Taken) (given : List CollectorItem) (mid : CollectorState)
    → IsSchedule plan → IsDeliveryOf plan reach first (pos 0) arrivals (datagrams ++ later)
    → CollectorSteps (made window reach first) datagrams answers given mid → 1 ≤ length given → KnowsFirst plan mid

-- And so does each collector that took the whole of a delivery in which each frame is in time.
abbrev pub FirstOfAll : Type 0
FirstOfAll =
    (plan : Plan) (window reach : ℕ) (first frame_limit : Option ℕ) (arrivals : List Arrival) (datagrams : List (List ℕ))
    (answers : List Taken) (items : List CollectorItem)
    → AllInTime plan window reach first arrivals datagrams → (run : CollectorRun window reach first frame_limit datagrams answers items) → KnowsFirst plan run.mid

-- no packet of the schedule is longer than this carry allows
abbrev pub FitsCarry : Carry → Plan → Type 0
FitsCarry carry plan = (t : ℕ) → packet_size plan t ≤ most_packet carry

-- Where no packet of a schedule is longer than the new carry allows, none that a conversion comes to, of whatever came of it, is
-- too large.
abbrev pub NoneIsTooLarge : Type 0
NoneIsTooLarge =
    (plan : Plan) (carry : Carry) (range : PacketRange) (arrivals : List Arrival) (packets later : List (List ℕ)) (items : List CollectorItem)
    (item : CollectorItem) (last : CollectorState) (number : ℕ)
    → IsSchedule plan → FitsCarry carry plan → 1 ≤ range.window → IsDeliveryOf plan range.reach range.first (pos 0) arrivals (packets ++ later)
    → ComesAt range packets items item last → IsTooLarge carry item number → ⊥

-- What a conversion makes of the packets of such a delivery is the schedule's capture under the new carry, whether it reads them
-- all or stops where it has enough.
abbrev pub ConversionsAreCaptures : Type 0
ConversionsAreCaptures =
    (plan : Plan) (carry : Carry) (range : PacketRange) (arrivals : List Arrival) (packets later : List (List ℕ)) (parts : List ItemOutput)
    → AllInTime plan range.window range.reach range.first arrivals (packets ++ later) → MayBeFrameLimit plan range.frame_limit
    → (later ≡ []) ⊎ HasEnough range packets → IsConversion range carry packets parts → IsItsCapture plan carry parts

-- the text is that of the datagrams of some first frames
abbrev pub IsOfFirstFrames : Plan → List ℕ → Type 0
IsOfFirstFrames plan text = (n : ℕ) × (datagrams : List (List ℕ)) × (n ≤ frame_count plan) × AreOfFrames plan 0 n datagrams × (text ≡ concat datagrams)

-- Where it can't read on, what was given so far is written as the datagrams of some first frames under the new carry.
abbrev pub BrokenConversions : Type 0
BrokenConversions =
    (plan : Plan) (carry : Carry) (range : PacketRange) (arrivals : List Arrival) (packets later : List (List ℕ)) (parts : List ItemOutput)
    → AllInTime plan range.window range.reach range.first arrivals (packets ++ later) → IsConversionBroken range carry packets parts
    → IsOfFirstFrames (under carry plan) (text_of parts) × (lines_of parts ≡ [])

-- the text is of the datagrams of one first frame or more, and so a front of the schedule's capture
abbrev pub IsOfSomeFrames : Plan → List ℕ → Type 0
IsOfSomeFrames plan text = IsOfFirstFrames plan text × IsPrefixOfCapture plan whole_schedule text

-- Where it comes to an item, this one and those before it become the datagrams of some first frames under the new carry.
abbrev pub HaltedConversions : Type 0
HaltedConversions =
    (plan : Plan) (carry : Carry) (range : PacketRange) (arrivals : List Arrival) (packets later : List (List ℕ)) (items : List CollectorItem) (item : CollectorItem)
    (last : CollectorState) (parts : List ItemOutput)
    → CarryFits carry → AllInTime plan range.window range.reach range.first arrivals (packets ++ later) → MayBeFrameLimit plan range.frame_limit
    → (at : ComesAt range packets items item last) → (at.later ≡ [] → later ≡ []) → is_full range.frame_limit (length items) ≡ false
    → ConvertsAll carry (first_of last) (items ++ item ∷ []) parts → IsOfSomeFrames (under carry plan) (text_of parts) × (lines_of parts ≡ [])

-- These bytes are a capture of a schedule in which each frame is in time.
pub record HasSchedule (plan : Plan) (range : PacketRange) (bytes : List ℕ) : Type 0 where
  pub arrivals : List Arrival
  pub packets : List (List ℕ)
  pub capture : IsCaptureOf bytes packets End
  pub in_time : AllInTime plan range.window range.reach range.first arrivals packets

-- The schedule's capture under the new carry was written; after a failed read the datagrams of some first frames; after a failed
-- write a front of the capture; where memory is wanting, nothing. No other fault comes, and nothing was named.
abbrev pub ConversionEndsWell : Plan → Carry → Result Bool Fault → Known Output → Known Output → Known Output → Known Output → Type 0
ConversionEndsWell plan carry (Ok clean) out out' err err' =
    (clean ≡ true) × OutputsText out out' (IsCapture (under carry plan) whole_schedule) × OutputsText err err' (λ text. text ≡ [])
ConversionEndsWell plan carry (Err faults.Read) out out' err err' =
    OutputsText out out' (IsOfFirstFrames (under carry plan)) × OutputsText err err' (λ text. text ≡ [])
ConversionEndsWell plan carry (Err faults.Write) out out' err err' =
    OutputsText out out' (IsPrefixOfCapture (under carry plan) whole_schedule) × OutputsText err err' (λ text. text ≡ [])
ConversionEndsWell plan carry (Err faults.NoMemory) out out' err err' = (out' ≡ out) × (err' ≡ err)
ConversionEndsWell plan carry (Err fault) out out' err err' = ⊥

-- So ends a run of `convert` over such a capture, where the input tells before and after it what is left.
abbrev pub CapturesAreConverted : Type 0
CapturesAreConverted =
    (plan : Plan) (carry : Carry) (range : PacketRange) (ending : Result Bool Fault) (err_ok : Bool) (before after : Known Input)
    (out out' err err' : Known Output) (input rest : Input)
    → CarryFits carry → FitsCarry carry plan → before.contents ≡ Some input → after.contents ≡ Some rest → HasSchedule plan range input.left → MayBeFrameLimit plan range.frame_limit
    → ConvertEnds range carry ending err_ok before after out out' err err' → ConversionEndsWell plan carry ending out out' err err'

-- What a gateway sends of a delivery.
use Rattle.std.specs.Prelude.{ℕ, ℤ, pos, negsuc, ◌+ℤ◌, ◌≡◌, ◌≤◌, ◌⊎◌, Bool, true, false, List, [], length, map, slice_get, Option, None, Some}
use Rattle.std.specs.List.{range_with_len, flat_map, AllZip, AllByRecursion}
use Rattle.dcp_pft.specs.declared.carry.Carry.{Carry}
use Rattle.dcp_pft.specs.Limits.{most_packet}
use Rattle.dcp_pft.specs.Loss.{is_recoverable}
use Rattle.dcp_pft.specs.Carrying.{CarryFits, datagram_count}
use Rattle.dcp_collect.specs.declared.taken.Field.{Field}
use Rattle.dcp_collect.specs.declared.taken.Taken.{Taken}
use Rattle.dcp_collect.specs.Numbers.{end_of}
use Rattle.dcp_collect.specs.Runs.{CollectorItem, Packet, CollectorRun}
use Rattle.law_collect.specs.Delivery.{AreSent, AreDelivered, items, got, newest_of, IsFirstPacket, IsWithinSpan}
use Rattle.law_collect.specs.Laws.{IsHeard}
use Rattle.drm_schedule.specs.declared.plan.Plan.{Plan}
use Rattle.drm_schedule.specs.Valid.{IsSchedule}
use Rattle.drm_reconfiguration.specs.Tracker.{TrackerState, new_tracker}
use Rattle.drm_timeline.specs.Numbers.{packet_size}
use Rattle.mod_feed.specs.Feeding.{FeedStep, FeedAnswers}
use Rattle.law_delivery.specs.Sent as schedules
use Rattle.law_delivery.specs.Sent.{Arrival, IsForeign, IsArrival, AreFar, pairs_in, IsDeliveryOf, shape_at, frame_of_number}
use Rattle.law_delivery.specs.Given.{IsServed, IsAFrame}
use Rattle.report_text.specs.Report.{item_line}
use Rattle.law_frame_lines.specs.Line.{IsFrameLine}
use Rattle.recv_reading.specs.declared.options.ReceiveOptions.{ReceiveOptions}
use Rattle.law_delivery.specs.OtherCarry.{under}
use Rattle.drm_gate.specs.Passing.{Outcome, sent_of}
use Rattle.drm_gate.specs.Relaying.{IsOnward}

-- ---- lists of packets

-- all datagrams of the packet at a place, in order
abbrev pub pairs_at : ℕ → ℕ → List (ℕ × ℕ)
pairs_at p count = map (λ i. (p, i)) (range_with_len 0 count)

-- the place that a number counts to from the base
abbrev pub place_of : ℤ → ℕ
place_of (pos p) = p
place_of (negsuc n) = 0

-- all datagrams of a packet that is given
abbrev pub pairs_of : Carry → ℤ → CollectorItem → List (ℕ × ℕ)
pairs_of carry first_frame (Packet q bytes) = pairs_at (place_of (first_frame +ℤ pos q)) (datagram_count carry (length bytes))
pairs_of carry first_frame other = []

-- none of the packets is above the limit of the carry
abbrev pub AreWithin : Carry → List (List ℕ) → Type 0
AreWithin carry packets = (p : ℕ) (packet : List ℕ) → slice_get packets p ≡ Some packet → length packet ≤ most_packet carry

-- The packets can be sent under the new carry, and what was sent is a delivery of them: all datagrams of exactly those that the
-- delivery under the old one calls for, in order.
pub record AreDeliveredOn (old new : Carry) (sequence0 : ℕ) (packets : List (List ℕ)) (rules : ReceiveOptions) (first_frame : ℤ) (pairs : List (ℕ × ℕ)) (sent : List (List ℕ)) : Type 0 where
  pub are_sent : AreSent new sequence0 packets
  pub delivered : AreDelivered new sequence0 packets (flat_map (pairs_of new first_frame) (items old packets rules.window first_frame rules.frames pairs)) sent

-- What becomes of a delivery is a delivery of the same packets under the new carry.
abbrev pub PassesDeliveries : Type 0
PassesDeliveries =
    (old new : Carry) (sequence0 : ℕ) (packets : List (List ℕ)) (rules : ReceiveOptions) (first_frame : ℤ) (pairs : List (ℕ × ℕ)) (datagrams : List (List ℕ)) (fates : List Outcome)
    → 1 ≤ rules.window → CarryFits new → AreWithin new packets → IsHeard old sequence0 packets rules.reach rules.first first_frame pairs datagrams
    → IsOnward rules new datagrams fates → AreDeliveredOn old new sequence0 packets rules first_frame pairs (sent_of fates)

-- ---- schedules

-- all datagrams of frame t, where it is given
abbrev pub pairs_where : Bool → Plan → Carry → ℕ → List (ℕ × ℕ)
pairs_where true plan carry t = pairs_at t (datagram_count carry (packet_size plan t))
pairs_where false plan carry t = []

abbrev pub pairs_by : Plan → Carry → Option ℕ → (ℕ → Bool) → List (ℕ × ℕ)
pairs_by plan carry None kept = []
pairs_by plan carry (Some t) kept = pairs_where (is_recoverable (shape_at plan t) kept) plan carry t

-- all datagrams under this carry of exactly the frames that are given of a delivery, in order
abbrev pub pairs_given : Plan → Carry → ℕ → ℤ → Option ℕ → List (ℕ × ℕ) → List (ℕ × ℕ)
pairs_given plan carry window first_frame frame_limit pairs =
    flat_map (λ q. pairs_by plan carry (frame_of_number plan first_frame q) (got window first_frame pairs q)) (range_with_len 0 (end_of frame_limit (newest_of first_frame None pairs)))

-- What becomes of a delivery of a schedule, with any foreign datagrams in it, behind a gateway under whose carry the schedule is one, too.
pub record IsDeliveryPassedOn (plan : Plan) (carry : Carry) (rules : ReceiveOptions) (first_frame : ℤ) (arrivals : List Arrival) (datagrams : List (List ℕ)) (fates : List Outcome) : Type 0 where
  pub schedule : IsSchedule plan
  pub other : IsSchedule (under carry plan)
  pub some : 1 ≤ rules.window
  pub followed : IsDeliveryOf plan rules.reach rules.first first_frame arrivals datagrams
  pub onward : IsOnward rules carry datagrams fates

-- It is a delivery of the schedule under that carry.
abbrev pub PassesSchedules : Type 0
PassesSchedules =
    (plan : Plan) (carry : Carry) (rules : ReceiveOptions) (first_frame : ℤ) (arrivals : List Arrival) (datagrams : List (List ℕ)) (fates : List Outcome)
    → IsDeliveryPassedOn plan carry rules first_frame arrivals datagrams fates
    → schedules.AreSent (under carry plan) (pairs_given plan carry rules.window first_frame rules.frames (pairs_in arrivals)) (sent_of fates)

-- ---- behind a gateway

-- it is among these, or is a foreign datagram
abbrev pub IsAmong : List (List ℕ) → List ℕ → Type 0
IsAmong sent datagram = ((k : ℕ) × (slice_get sent k ≡ Some datagram)) ⊎ ((cause : Field) × IsForeign cause datagram)

-- Whatever of what was sent comes, in whatever order, and with whatever foreign datagrams, is a delivery of the schedule again.
abbrev pub ComesAgain : Type 0
ComesAgain =
    (plan : Plan) (carry : Carry) (rules : ReceiveOptions) (first_frame : ℤ) (arrivals : List Arrival) (datagrams : List (List ℕ)) (fates : List Outcome)
    → IsDeliveryPassedOn plan carry rules first_frame arrivals datagrams fates
    → (later : List (List ℕ)) → AllByRecursion (IsAmong (sent_of fates)) later → (again : List Arrival) × AllZip (IsArrival (under carry plan)) again later

-- they have a base, and are within the span from it, and foreign datagrams that are to be far are
abbrev pub HaveFirstFrame : Plan → ℕ → Option ℕ → ℤ → List Arrival → List (List ℕ) → Type 0
HaveFirstFrame plan reach first first_frame arrivals datagrams =
    IsFirstPacket plan.seq first (pairs_in arrivals) first_frame × IsWithinSpan reach first_frame None (pairs_in arrivals) × AreFar reach plan.seq first_frame None arrivals datagrams

-- Each frame among them is the server's, and its line is that of the schedule's frame.
abbrev pub AreServed : Plan → ℤ → List FeedStep → Type 0
AreServed plan first_frame steps =
    (q : ℕ) (step : FeedStep) → slice_get steps q ≡ Some step → IsAFrame step.item
    → (t : ℕ) × ((first_frame +ℤ pos q) ≡ pos t) × IsServed plan t q step.item × IsFrameLine plan t q (item_line step.item)

-- What a receiver gives that follows a delivery of what was sent.
abbrev pub GivesServed : Plan → List (List ℕ) → List Arrival → Type 0
GivesServed plan later again =
    (window reach : ℕ) (first frame_limit : Option ℕ) (first_frame : ℤ) (answers : List Taken) (collected : List CollectorItem) (steps : List FeedStep) (after : TrackerState)
    → 1 ≤ window → HaveFirstFrame plan reach first first_frame again later → CollectorRun window reach first frame_limit later answers collected → FeedAnswers new_tracker collected steps after → AreServed plan first_frame steps

-- Over one gateway: what comes of what it sends is a delivery of the schedule, and where a receiver follows that, each frame that it
-- gives is the server's.
abbrev pub ServedBehindOne : Type 0
ServedBehindOne =
    (plan : Plan) (carry : Carry) (rules : ReceiveOptions) (first_frame : ℤ) (arrivals : List Arrival) (datagrams : List (List ℕ)) (fates : List Outcome)
    → IsDeliveryPassedOn plan carry rules first_frame arrivals datagrams fates
    → (later : List (List ℕ)) → AllByRecursion (IsAmong (sent_of fates)) later
    → (again : List Arrival) × AllZip (IsArrival (under carry plan)) again later × GivesServed plan later again

-- Over two gateways: what comes of what the first one sends is a delivery of the schedule; where the second one follows that, so is
-- what comes of what it sends; and where a receiver follows that, each frame that it gives is the server's.
abbrev pub ServedBehindTwo : Type 0
ServedBehindTwo =
    (plan : Plan) (one other : Carry) (rules rules' : ReceiveOptions) (first_frame : ℤ) (arrivals : List Arrival) (datagrams datagrams' : List (List ℕ)) (fates fates' : List Outcome)
    → IsDeliveryPassedOn plan one rules first_frame arrivals datagrams fates → IsSchedule (under other plan) → 1 ≤ rules'.window
    → AllByRecursion (IsAmong (sent_of fates)) datagrams' → IsOnward rules' other datagrams' fates'
    → (arrivals' : List Arrival) × AllZip (IsArrival (under one plan)) arrivals' datagrams'
    × ((first_frame' : ℤ) (later : List (List ℕ)) → HaveFirstFrame plan rules'.reach rules'.first first_frame' arrivals' datagrams' → AllByRecursion (IsAmong (sent_of fates')) later
    → (again : List Arrival) × AllZip (IsArrival (under other plan)) again later × GivesServed plan later again)

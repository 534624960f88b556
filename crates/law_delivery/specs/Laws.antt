-- From what is sent to what a modulator gives.
use Rattle.std.specs.Prelude.{ℕ, ℤ, pos, ◌+ℤ◌, ◌≡◌, ◌*◌, ◌<◌, ◌≤◌, ◌⊎◌, List, ◌++◌, Contains, length, slice_get, take, Option, None, Some}
use Rattle.std.specs.List.{AllZip}
use Rattle.drm_schedule.specs.declared.plan.Plan.{Plan}
use Rattle.drm_schedule.specs.Valid.{IsSchedule}
use Rattle.drm_reconfiguration.specs.declared.tracker.Before.TheVariants.{Switch, Resumed}
use Rattle.drm_reconfiguration.specs.Tracker.{TrackerState, new_tracker}
use Rattle.drm_timeline.specs.Starts.{later_starts}
use Rattle.dcp_collect.specs.declared.taken.Taken.{Taken}
use Rattle.dcp_collect.specs.declared.taken.Taken.TheVariants.{Refused}
use Rattle.dcp_collect.specs.CollectorState.{CollectorState, made}
use Rattle.dcp_collect.specs.Runs.{CollectorItem as Collected, CollectorSteps, CollectorRun}
use Rattle.law_collect.specs.Laws.{IsTakenWell}
use Rattle.mod_feed.specs.Feeding.{FeedStep, FeedAnswers, befores_of}
use Rattle.drm_timeline.specs.Numbers.{frame_count}
use Rattle.law_delivery.specs.Sent.{Arrival, OfSchedule, Foreign, pairs_in, IsDeliveryOf, IsInTime}
use Rattle.law_delivery.specs.Given.{IsServed, AreGiven, IsStart, AreAllServed, AreAllFrames}

-- the answer suits what arrived: a foreign datagram is refused for its cause, and nothing else is refused or inconsistent
abbrev pub AnswerSuits : Arrival → Taken → Type 0
AnswerSuits (OfSchedule pair) answer = IsTakenWell answer
AnswerSuits (Foreign cause) answer = answer ≡ Refused cause

-- Whatever came of a valid schedule's datagrams, in whatever order, and with whatever foreign datagrams: what a collector and a feed
-- give of them is what the delivery calls for, and the foreign datagrams alone are refused.
abbrev pub Delivering : Type 0
Delivering =
    (plan : Plan) (window reach : ℕ) (first frame_limit : Option ℕ) (first_frame : ℤ) (arrivals : List Arrival) (datagrams : List (List ℕ))
    (answers : List Taken) (collected : List Collected) (steps : List FeedStep) (after : TrackerState)
    → IsSchedule plan → 1 ≤ window → IsDeliveryOf plan reach first first_frame arrivals datagrams
    → CollectorRun window reach first frame_limit datagrams answers collected → FeedAnswers new_tracker collected steps after
    → AreGiven plan window first_frame frame_limit (pairs_in arrivals) steps × AllZip AnswerSuits arrivals answers

-- The same where a reading ends as soon as the told number of items was given: they are those of the whole delivery,
-- whatever of it is still to come.
abbrev pub DeliveringEarly : Type 0
DeliveringEarly =
    (plan : Plan) (window reach n : ℕ) (first : Option ℕ) (first_frame : ℤ) (arrivals : List Arrival) (datagrams later : List (List ℕ))
    (answers : List Taken) (collected : List Collected) (mid : CollectorState) (steps : List FeedStep) (after : TrackerState)
    → IsSchedule plan → 1 ≤ window → IsDeliveryOf plan reach first first_frame arrivals (datagrams ++ later)
    → CollectorSteps (made window reach first) datagrams answers collected mid → n ≤ length collected
    → FeedAnswers new_tracker (take n collected) steps after
    → AreGiven plan window first_frame (Some n) (pairs_in arrivals) steps

-- The foreign datagrams of such a delivery alone are refused, whatever of it is still to come.
abbrev pub ForeignRefused : Type 0
ForeignRefused =
    (plan : Plan) (window reach : ℕ) (first : Option ℕ) (first_frame : ℤ) (arrivals : List Arrival) (datagrams later : List (List ℕ))
    (answers : List Taken) (collected : List Collected) (mid : CollectorState)
    → IsSchedule plan → 1 ≤ window → IsDeliveryOf plan reach first first_frame arrivals (datagrams ++ later)
    → CollectorSteps (made window reach first) datagrams answers collected mid → AllZip AnswerSuits (take (length datagrams) arrivals) answers

-- A frame whose packet lost no more datagrams than it was cut for, and whose others came within the window, is given.
abbrev pub GivenInTime : Type 0
GivenInTime =
    (plan : Plan) (window : ℕ) (first_frame : ℤ) (frame_limit : Option ℕ) (pairs : List (ℕ × ℕ)) (steps : List FeedStep) (q : ℕ) (step : FeedStep)
    → IsSchedule plan → AreGiven plan window first_frame frame_limit pairs steps → IsInTime plan window first_frame pairs q
    → slice_get steps q ≡ Some step → (t : ℕ) × ((first_frame +ℤ pos q) ≡ pos t) × IsServed plan t q step.item

-- Whatever is missing, a switch is told only before the first frame of a later configuration.
abbrev pub SwitchesAtStarts : Type 0
SwitchesAtStarts =
    (plan : Plan) (window : ℕ) (first_frame : ℤ) (frame_limit : Option ℕ) (pairs : List (ℕ × ℕ)) (steps : List FeedStep) (q f : ℕ)
    → IsSchedule plan → AreGiven plan window first_frame frame_limit pairs steps
    → slice_get (befores_of steps) q ≡ Some (Some (Switch f)) → (f ≡ q) × IsStart plan first_frame q

-- Where no frame is missing, one is told before the first frame of each later configuration behind the first item, and
-- nothing is resumed.
abbrev pub AllSwitches : Type 0
AllSwitches =
    (plan : Plan) (window : ℕ) (first_frame : ℤ) (frame_limit : Option ℕ) (pairs : List (ℕ × ℕ)) (steps : List FeedStep)
    → IsSchedule plan → AreGiven plan window first_frame frame_limit pairs steps → AreAllFrames steps
    → ((start q : ℕ) → Contains (later_starts plan) start → (first_frame +ℤ pos q) ≡ pos (3 * start) → 0 < q → q < length steps
    → slice_get (befores_of steps) q ≡ Some (Some (Switch q)))
    × ((q p : ℕ) → slice_get (befores_of steps) q ≡ Some (Some (Resumed p)) → ⊥)

-- A delivery from the schedule's first frame on in which each frame is in time gives all frames of the schedule, whether
-- their number is told or not.
abbrev pub AllFrames : Type 0
AllFrames =
    (plan : Plan) (window reach : ℕ) (frame_limit : Option ℕ) (arrivals : List Arrival) (datagrams : List (List ℕ)) (first : Option ℕ) (steps : List FeedStep)
    → IsSchedule plan → (frame_limit ≡ None) ⊎ (frame_limit ≡ Some (frame_count plan)) → IsDeliveryOf plan reach first (pos 0) arrivals datagrams
    → ((q : ℕ) → q < frame_count plan → IsInTime plan window (pos 0) (pairs_in arrivals) q)
    → AreGiven plan window (pos 0) frame_limit (pairs_in arrivals) steps
    → (length steps ≡ frame_count plan) × AreAllServed plan (pos 0) steps

-- In such a delivery all of them were given with its last datagram, whether an end is known or not.
abbrev pub AllAtOnce : Type 0
AllAtOnce =
    (plan : Plan) (window reach : ℕ) (first : Option ℕ) (arrivals : List Arrival) (datagrams : List (List ℕ))
    → IsSchedule plan → IsDeliveryOf plan reach first (pos 0) arrivals datagrams
    → ((q : ℕ) → q < frame_count plan → IsInTime plan window (pos 0) (pairs_in arrivals) q)
    → (answers : List Taken) × (collected : List Collected) × (mid : CollectorState)
    × CollectorSteps (made window reach first) datagrams answers collected mid × (frame_count plan ≤ length collected)

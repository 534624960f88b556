-- Deliveries without foreign datagrams, and what is shown of them first.
use Rattle.std.specs.Prelude.{ℕ, ℤ, ◌≤◌, List, ◌++◌, length, take, Option, None, Some}
use Rattle.std.specs.List.{AllByRecursion}
use Rattle.drm_schedule.specs.declared.plan.Plan.{Plan}
use Rattle.drm_schedule.specs.Valid.{IsSchedule}
use Rattle.drm_reconfiguration.specs.Tracker.{TrackerState, new_tracker}
use Rattle.dcp_collect.specs.declared.taken.Taken.{Taken}
use Rattle.dcp_collect.specs.CollectorState.{CollectorState, made}
use Rattle.dcp_collect.specs.Runs.{CollectorItem as Collected, CollectorSteps, CollectorRun}
use Rattle.law_collect.specs.Delivery.{IsWithinSpan, IsFirstPacket}
use Rattle.law_collect.specs.Laws.{IsTakenWell}
use Rattle.mod_feed.specs.Feeding.{FeedStep, FeedAnswers}
use Rattle.law_delivery.specs.Sent.{AreSent}
use Rattle.law_delivery.specs.Given.{AreGiven}

-- a delivery of pairs alone that a receiver can follow
pub record IsPaired (plan : Plan) (reach : ℕ) (first : Option ℕ) (first_frame : ℤ) (pairs : List (ℕ × ℕ)) (datagrams : List (List ℕ)) : Type 0 where
  pub sent : AreSent plan pairs datagrams
  pub is_first : IsFirstPacket plan.seq first pairs first_frame
  pub within_span : IsWithinSpan reach first_frame None pairs

abbrev pub DeliveringPairs : Type 0
DeliveringPairs =
    (plan : Plan) (window reach : ℕ) (first frame_limit : Option ℕ) (first_frame : ℤ) (pairs : List (ℕ × ℕ)) (datagrams : List (List ℕ))
    (answers : List Taken) (collected : List Collected) (steps : List FeedStep) (after : TrackerState)
    → IsSchedule plan → 1 ≤ window → IsPaired plan reach first first_frame pairs datagrams
    → CollectorRun window reach first frame_limit datagrams answers collected → FeedAnswers new_tracker collected steps after
    → AreGiven plan window first_frame frame_limit pairs steps × AllByRecursion IsTakenWell answers

abbrev pub PairsEarly : Type 0
PairsEarly =
    (plan : Plan) (window reach n : ℕ) (first : Option ℕ) (first_frame : ℤ) (pairs : List (ℕ × ℕ)) (datagrams later : List (List ℕ))
    (answers : List Taken) (collected : List Collected) (mid : CollectorState) (steps : List FeedStep) (after : TrackerState)
    → IsSchedule plan → 1 ≤ window → IsPaired plan reach first first_frame pairs (datagrams ++ later)
    → CollectorSteps (made window reach first) datagrams answers collected mid → n ≤ length collected
    → FeedAnswers new_tracker (take n collected) steps after
    → AreGiven plan window first_frame (Some n) pairs steps

abbrev pub PairsRight : Type 0
PairsRight =
    (plan : Plan) (window reach : ℕ) (first : Option ℕ) (first_frame : ℤ) (pairs : List (ℕ × ℕ)) (datagrams later : List (List ℕ))
    (answers : List Taken) (collected : List Collected) (mid : CollectorState)
    → IsSchedule plan → 1 ≤ window → IsPaired plan reach first first_frame pairs (datagrams ++ later)
    → CollectorSteps (made window reach first) datagrams answers collected mid → AllByRecursion IsTakenWell answers

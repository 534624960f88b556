-- What the report of several paths says of a delivery, and what several paths bring.
use Rattle.std.specs.Prelude.{ℕ, ℤ, pos, ◌≡◌, ◌+◌, ◌<◌, ◌≤◌, ◌==◌, ◌⊎◌, if◌then◌else◌, Bool, true, List, [], ◌∷◌, length, None, Some}
use Rattle.std.specs.List.{AllZip}
use Rattle.drm_schedule.specs.declared.plan.Plan.{Plan}
use Rattle.drm_schedule.specs.Valid.{IsSchedule}
use Rattle.drm_timeline.specs.Numbers.{frame_count}
use Rattle.dcp_collect.specs.declared.taken.Taken.{Taken}
use Rattle.dcp_collect.specs.CollectorState.{CollectorState, made}
use Rattle.dcp_collect.specs.Runs.{CollectorItem, CollectorSteps}
use Rattle.mod_feed.specs.Feeding.{FeedStep}
use Rattle.law_delivery.specs.Sent.{Arrival, IsArrival, AreFar, pairs_in, IsDeliveryOf, IsInTime}
use Rattle.law_delivery.specs.Given.{AreGiven, AreAllServed}
use Rattle.recv_report.specs.Headline.{GivesInTime, PrintsFrames, ReportsSwitches, foreign_datagrams}
use Rattle.report_text.specs.Reports.{report, is_clean}
use Rattle.recv_reading.specs.declared.options.PacketRange.{PacketRange}
use Rattle.recv_reading.specs.Options.{IsWithinLimits}
use Rattle.report_journal.specs.Journal.{datagrams}
use Rattle.report_journal.specs.Report.{word_for, IsReportOf}
use Rattle.drm_paths.specs.State.{AreNumbered}
use Rattle.drm_paths.specs.Closing.{of_path}

-- ---- the report

-- A new collector that takes these datagrams, and gives all that is ready after each, has given so many items.
abbrev pub HasGiven : PacketRange → List (List ℕ) → ℕ → Type 0
HasGiven by received many = (taken : List Taken) × (items : List CollectorItem) × (mid : CollectorState) × CollectorSteps (made by.window by.reach by.first) received taken items mid × (length items ≡ many)

-- The text is the report of what a delivery of a schedule calls for: of what was refused it names the foreign datagrams, and last it says
-- whether the told number of frames was given before all paths had ended.
pub record ReportsDelivery (plan : Plan) (by : PacketRange) (first_frame : ℤ) (arrivals : List Arrival) (received : List (List ℕ)) (text : List ℕ) (clean : Bool) : Type 0 where
  pub steps : List FeedStep
  pub given : AreGiven plan by.window first_frame by.frame_limit (pairs_in arrivals) steps
  pub in_time : GivesInTime plan by.window first_frame (pairs_in arrivals) steps
  pub printed : PrintsFrames plan steps
  pub switches : ReportsSwitches plan first_frame steps
  pub many : ℕ
  pub before_the_end : HasGiven by received many
  pub text_is : text ≡ report 1 steps (foreign_datagrams arrivals) (word_for by.frame_limit many)
  pub clean_is : clean ≡ is_clean steps

-- Whatever delivery of whatever valid schedule came over the paths: their report is that of what it calls for.
abbrev pub ReportsDeliveries : Type 0
ReportsDeliveries =
    (plan : Plan) (by : PacketRange) (first_frame : ℤ) (arrivals : List Arrival) (received : List (List ℕ)) (text : List ℕ) (clean : Bool)
    → IsSchedule plan → IsWithinLimits by → IsDeliveryOf plan by.reach by.first first_frame arrivals received → IsReportOf by received text clean
    → ReportsDelivery plan by first_frame arrivals received text clean

-- It is the report of all frames of the schedule, each the server's, and nothing is missing.
pub record ReportsAllFrames (plan : Plan) (by : PacketRange) (arrivals : List Arrival) (received : List (List ℕ)) (text : List ℕ) (clean : Bool) : Type 0 where
  pub reports : ReportsDelivery plan by (pos 0) arrivals received text clean
  pub count : length reports.steps ≡ frame_count plan
  pub all : AreAllServed plan (pos 0) reports.steps
  pub nothing_missing : clean ≡ true

-- Whatever delivery came over the paths, from the schedule's first frame on and with each frame in time: all frames are given,
-- whether their number is told or not.
abbrev pub ReportsAll : Type 0
ReportsAll =
    (plan : Plan) (by : PacketRange) (arrivals : List Arrival) (received : List (List ℕ)) (text : List ℕ) (clean : Bool)
    → IsSchedule plan → IsWithinLimits by → (by.frame_limit ≡ None) ⊎ (by.frame_limit ≡ Some (frame_count plan))
    → IsDeliveryOf plan by.reach by.first (pos 0) arrivals received
    → ((q : ℕ) → q < frame_count plan → IsInTime plan by.window (pos 0) (pairs_in arrivals) q)
    → IsReportOf by received text clean → ReportsAllFrames plan by arrivals received text clean

-- ---- the paths

-- those of the arrivals of these entries that came over path k, in their order
abbrev pub arrivals_of : ℕ → List (ℕ × List ℕ) → List Arrival → List Arrival
arrivals_of k (e ∷ entries) (a ∷ arrivals) = if e.0 == k then a ∷ arrivals_of k entries arrivals else arrivals_of k entries arrivals
arrivals_of k entries arrivals = []

-- Where what came over each path is a delivery of the schedule, with any foreign datagrams in it, all entries of these paths are one, in
-- whatever order: of each path it has the arrivals of that path's delivery, in their order.
abbrev pub MixedPathsAreOneDelivery : Type 0
MixedPathsAreOneDelivery =
    (plan : Plan) (paths : ℕ) (entries : List (ℕ × List ℕ)) (each : ℕ → List Arrival) → AreNumbered paths entries
    → ((k : ℕ) → k < paths → AllZip (IsArrival plan) (each k) (of_path k entries))
    → (arrivals : List Arrival) × AllZip (IsArrival plan) arrivals (datagrams entries) × ((k : ℕ) → k < paths → arrivals_of k entries arrivals ≡ each k)

-- A receiver that is told the schedule's first number can follow each delivery of a schedule of at most 32,768 frames, and of at
-- most one more than it reaches, in whatever order it comes.
abbrev pub FollowedInAnyOrder : Type 0
FollowedInAnyOrder =
    (plan : Plan) (reach : ℕ) (arrivals : List Arrival) (received : List (List ℕ)) → frame_count plan ≤ 32768 → frame_count plan ≤ reach + 1
    → AllZip (IsArrival plan) arrivals received → AreFar reach plan.seq (pos 0) None arrivals received
    → IsDeliveryOf plan reach (Some plan.seq) (pos 0) arrivals received

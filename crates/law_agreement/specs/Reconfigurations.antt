-- What a modulator gives of a schedule, item by item, and what it reports of the schedule's reconfigurations (ES 201 980,
-- "Reconfiguration").
use Rattle.std.specs.Prelude.{ℕ, ℤ, pos, ◌+ℤ◌, ◌≡◌, ◌+◌, ◌*◌, ◌/◌, ◌<◌, ◌≤◌, ◌↔◌, List, slice_get, Contains, Some}
use Rattle.drm_schedule.specs.declared.config.Config.{Config}
use Rattle.drm_schedule.specs.declared.plan.Plan.{Plan}
use Rattle.drm_reconfiguration.specs.declared.tracker.Before.TheVariants.{Switch, Resumed}
use Rattle.drm_timeline.specs.Standing.{index_of}
use Rattle.drm_timeline.specs.Starts.{IsFirstFrame, later_starts}
use Rattle.mod_feed.specs.Feeding.{FeedStep}
use Rattle.law_delivery.specs.Given.{IsAFrame}

-- The items of a modulator in order, each with what is reported before it. Item 0 is that of frame `first_frame` of the schedule.
pub record GivenItems : Type 0 where
  pub first_frame : ℤ
  pub steps : List FeedStep

-- item q, which is this step, is that of frame t of the schedule
abbrev pub IsItemOf : GivenItems → ℕ → ℕ → FeedStep → Type 0
IsItemOf given t q step = (slice_get given.steps q ≡ Some step) × ((given.first_frame +ℤ pos q) ≡ pos t)

-- There is an item of frame t: the frame, or that it is missing.
pub record HasItemOf (t : ℕ) (given : GivenItems) : Type 0 where
  pub q : ℕ
  pub step : FeedStep
  pub is : IsItemOf given t q step

-- Frame t counts down to super frame `start`: the reconfiguration index of its FAC is above 0, and `start` is so many super frames ahead.
abbrev pub CountsDownTo : Plan → ℕ → ℕ → Type 0
CountsDownTo plan start t = (0 < index_of plan (t / 3)) × (t / 3 + index_of plan (t / 3) ≡ start)

-- Frame t is in the schedule's countdown to super frame `start`: a configuration starts there, and t lies in the super frames directly
-- before it, as many as the countdown of that configuration says.
pub record IsInCountdown (plan : Plan) (start t : ℕ) : Type 0 where
  pub config : Config
  pub is : Contains plan.configs config
  pub starts : config.start ≡ start
  pub counting : start ≤ t / 3 + config.countdown
  pub before : t / 3 < start

-- Some frame of the countdown to super frame `start` is given.
pub record GivesCountdown (plan : Plan) (start : ℕ) (given : GivenItems) : Type 0 where
  pub t : ℕ
  pub q : ℕ
  pub step : FeedStep
  pub is : IsItemOf given t q step
  pub is_frame : IsAFrame step.item
  pub counts : CountsDownTo plan start t

-- The reconfiguration in super frame `start` can be reported: some frame of its countdown is given, and there is an item of its first
-- frame, given or missing.
abbrev pub CanReport : Plan → ℕ → GivenItems → Type 0
CanReport plan start given = GivesCountdown plan start given × HasItemOf (3 * start) given

-- A `switch` stands before the item of frame t, with that item's number.
pub record SwitchesBefore (t : ℕ) (given : GivenItems) : Type 0 where
  pub q : ℕ
  pub step : FeedStep
  pub is : IsItemOf given t q step
  pub before : step.before ≡ Some (Switch q)

-- Item q is a frame of the schedule, in or behind a super frame in which a later configuration starts, and no frame of the countdown to
-- that super frame is given.
pub record FollowsMissedCountdown (plan : Plan) (given : GivenItems) (q : ℕ) (step : FeedStep) : Type 0 where
  pub t : ℕ
  pub is : IsItemOf given t q step
  pub is_frame : IsAFrame step.item
  pub start : ℕ
  pub starts : Contains (later_starts plan) start
  pub behind : 3 * start ≤ t
  pub missed : ¬ GivesCountdown plan start given

-- What is reported of reconfigurations, whatever is missing.
pub record ReportsReconfigurations (plan : Plan) (given : GivenItems) : Type 0 where
  -- A `switch` stands only before the first frame of a later configuration, with that item's number.
  pub only : (q f : ℕ) (step : FeedStep) → slice_get given.steps q ≡ Some step → step.before ≡ Some (Switch f)
      → (f ≡ q) × ((t : ℕ) × IsItemOf given t q step × IsFirstFrame plan t)
  -- One stands before the first frame of super frame `start` if and only if a reconfiguration there can be reported.
  pub exactly : (start : ℕ) → SwitchesBefore (3 * start) given ↔ CanReport plan start given
  -- A `resumed` stands only before a frame that follows a missed countdown, with that item's number.
  pub resumed : (q p : ℕ) (step : FeedStep) → slice_get given.steps q ≡ Some step → step.before ≡ Some (Resumed p)
      → (p ≡ q) × FollowsMissedCountdown plan given q step

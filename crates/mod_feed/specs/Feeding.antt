-- A feed over what a collector gives. A feed is seen as its tracker.
use Rattle.std.specs.Prelude.{ℕ, ◌≡◌, ◌<◌, ◌^◌, ◌↔◌, List, [], ◌∷◌, ◌++◌, map, length, slice_get, Option, Some}
use Rattle.dcp_collect.specs.declared.item.Out.{Out}
use Rattle.dcp_collect.specs.Runs.{CollectorItem as Given}
use Rattle.dcp_collect.specs.View.{item_of as given_of}
use Rattle.dcp_collect.specs.WholePackets.{IsAfIfWhole}
use Rattle.drm_reconfiguration.specs.declared.seen.Seen.{Seen}
use Rattle.drm_reconfiguration.specs.declared.tracker.Before.{Before}
use Rattle.drm_reconfiguration.specs.Switches.{StandsBefore}
use Rattle.drm_reconfiguration.specs.Tracker.{TrackerState, new_tracker, answered, stepped}
use Rattle.mod_feed.specs.declared.feed.Step.{Step}
use Rattle.mod_feed.specs.Items.{FrameItem, item_of, IsItemOf, number_of, seen_in}

-- a step as data: an item, and what stands before it
pub record FeedStep : Type 0 where
  pub before : Option Before
  pub item : FrameItem

abbrev pub step_of : Step → FeedStep
step_of step = record { before = step.before; item = item_of step.item }

-- What a collector gives next to a feed that made so many calls: it has their number, and is an AF packet where it came whole.
pub record IsNextOut (feed : TrackerState) (out : Out) : Type 0 where
  pub in_order : number_of (given_of out) ≡ feed.calls
  pub small : feed.calls < 2 ^ 62
  pub whole : IsAfIfWhole out

-- what a feed answers to what a collector gives, whose number is that of the feed's earlier steps
pub record IsStep (feed : TrackerState) (given : Given) (step : FeedStep) : Type 0 where
  pub in_order : number_of given ≡ feed.calls
  pub item : IsItemOf given step.item
  pub before : step.before ≡ answered feed (seen_in step.item)

-- the feed after a step
abbrev pub after_step : TrackerState → FeedStep → TrackerState
after_step feed step = stepped feed (seen_in step.item)

-- a feed answers one after another by these steps, and is then left so
abbrev pub FeedAnswers : TrackerState → List Given → List FeedStep → TrackerState → Type 0
FeedAnswers feed [] [] after = after ≡ feed
FeedAnswers feed [] (step ∷ steps) after = ⊥
FeedAnswers feed (given ∷ more) [] after = ⊥
FeedAnswers feed (given ∷ more) (step ∷ steps) after = IsStep feed given step × FeedAnswers (after_step feed step) more steps after

-- what stands before the items, and what was seen in them
abbrev pub befores_of : List FeedStep → List (Option Before)
befores_of steps = map (λ step. step.before) steps

abbrev pub all_seen : List FeedStep → List (Option Seen)
all_seen steps = map (λ step. seen_in step.item) steps

-- What a collector gives has one item.
abbrev pub IsOneItem : Type 0
IsOneItem = (given : Given) (item other : FrameItem) → IsItemOf given item → IsItemOf given other → other ≡ item

-- A feed answers in one way.
abbrev pub IsOneFeeding : Type 0
IsOneFeeding =
    (feed after after' : TrackerState) (given : List Given) (steps steps' : List FeedStep)
    → FeedAnswers feed given steps after → FeedAnswers feed given steps' after' → (steps' ≡ steps) × (after' ≡ after)

-- Steps one after another are steps.
abbrev pub FeedingJoins : Type 0
FeedingJoins =
    (feed mid after : TrackerState) (given more : List Given) (steps later : List FeedStep)
    → FeedAnswers feed given steps mid → FeedAnswers mid more later after → FeedAnswers feed (given ++ more) (steps ++ later) after

-- Whatever a new feed is given, what it tells before item k is what stands there in the list of all that was seen, and
-- nothing else.
abbrev pub FeedTellsTheSwitches : Type 0
FeedTellsTheSwitches =
    (given : List Given) (steps : List FeedStep) (after : TrackerState) → FeedAnswers new_tracker given steps after
    → (k : ℕ) (before : Option Before)
    → (slice_get (befores_of steps) k ≡ Some before) ↔ ((k < length given) × StandsBefore (all_seen steps) k before)

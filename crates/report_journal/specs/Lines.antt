-- The lines of the items that are ready.
use Rattle.std.specs.Prelude.{ℕ, ◌≡◌, ◌≤◌, ◌++◌, ◌+◌, ◌-◌, false, IfSome, List, Option, None, Some, Result}
use Rattle.drm_links.specs.Known.{Known}
use Rattle.drm_links.specs.Sink.{Output, OutputsText, WritesWhole}
use Rattle.dcp_collect.specs.CollectorState.{CollectorState}
use Rattle.dcp_collect.specs.Runs.{CollectorItem, IsItem, CollectorGives, up_to}
use Rattle.law_collect.specs.Laws.{GivesSoFar}
use Rattle.drm_reconfiguration.specs.Tracker.{TrackerState}
use Rattle.mod_feed.specs.Feeding.{FeedStep, IsStep, FeedAnswers, after_step}
use Rattle.recv_reading.specs.State.{is_full}
use Rattle.report_text.specs.Report.{step_text}
use Rattle.report_text.specs.Reports.{steps_text}
use Rattle.report_text.specs.Tallies.{TallyContents, counted, items_in, with_steps}

-- how many of those told are left
abbrev pub left_of : Option ℕ → ℕ → Option ℕ
left_of None n = None
left_of (Some frame_limit) n = Some (frame_limit - n)

-- The items up to this number, and up to the told one, were given to the feed, and each was counted.
pub record HasFed (frame_limit : Option ℕ) (next : ℕ) (f : TrackerState) (t : TallyContents) : Type 0 where
  pub counted : items_in t.sums ≡ f.calls
  pub within : IfSome frame_limit (λ n. f.calls ≤ n)
  pub in_order : is_full frame_limit f.calls ≡ false → f.calls ≡ next

-- The next item of a collector was given to the feed and counted, and its lines were written.
pub record PrintsNext {E : Type 0} (result : Result (Unit {0}) E) (c : CollectorState) (f g : TrackerState) (t u : TallyContents) (a b : Known Output) : Type 0 where
  pub item : CollectorItem
  pub is : IsItem c item
  pub step : FeedStep
  pub stepping : IsStep f item step
  pub feed : g ≡ after_step f step
  pub calls : g.calls ≡ f.calls + 1
  pub counts : u ≡ counted t step.item
  pub writes : WritesWhole result a b (step_text step)

-- Some items were given, each was given to the feed and counted, and their lines were written.
pub record JournalPrints (c d : CollectorState) (f g : TrackerState) (t u : TallyContents) (a b : Known Output) : Type 0 where
  pub items : List CollectorItem
  pub gives : GivesSoFar c items d
  pub steps : List FeedStep
  pub feeds : FeedAnswers f items steps g
  pub counts : u ≡ with_steps t steps
  pub text : OutputsText a b (λ text. text ≡ steps_text steps)

-- all that was ready was given
abbrev pub GivesRest : CollectorState → CollectorState → Type 0
GivesRest c d = (items : List CollectorItem) × CollectorGives c items d

-- All that was ready was given, and up to the told number given to the feed, counted and written.
pub record PrintsAll (frame_limit : Option ℕ) (c d : CollectorState) (f g : TrackerState) (t u : TallyContents) (a b : Known Output) : Type 0 where
  pub items : List CollectorItem
  pub gives : CollectorGives c items d
  pub steps : List FeedStep
  pub feeds : FeedAnswers f (up_to (left_of frame_limit f.calls) items) steps g
  pub counts : u ≡ with_steps t steps
  pub text : OutputsText a b (λ text. text ≡ steps_text steps)

-- The same, with the lines behind a text.
pub record WritesAll (frame_limit : Option ℕ) (c d : CollectorState) (f g : TrackerState) (t u : TallyContents) (text after : List ℕ) : Type 0 where
  pub items : List CollectorItem
  pub gives : CollectorGives c items d
  pub steps : List FeedStep
  pub feeds : FeedAnswers f (up_to (left_of frame_limit f.calls) items) steps g
  pub counts : u ≡ with_steps t steps
  pub text_is : after ≡ text ++ steps_text steps

-- Some first ones of what was ready were given, and up to the told number given to the feed and counted.
pub record CountsFirst (frame_limit : Option ℕ) (c d : CollectorState) (f g : TrackerState) (t u : TallyContents) : Type 0 where
  pub items : List CollectorItem
  pub gives : GivesSoFar c items d
  pub steps : List FeedStep
  pub feeds : FeedAnswers f (up_to (left_of frame_limit f.calls) items) steps g
  pub counts : u ≡ with_steps t steps

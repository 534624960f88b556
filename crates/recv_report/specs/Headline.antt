-- From what a server sends to what a modulator's report says.
use Rattle.std.specs.Prelude.{ℕ, ℤ, pos, ◌+ℤ◌, ◌≡◌, ◌≢◌, ◌+◌, ◌*◌, ◌<◌, ◌⊎◌, Bool, true, List, [], ◌∷◌, ◌++◌, length, take, slice_get, Contains, None, Some}
use Rattle.drm_schedule.specs.declared.plan.Plan.{Plan}
use Rattle.drm_schedule.specs.Valid.{IsSchedule}
use Rattle.drm_links.specs.Known.{Known, IfBothKnown}
use Rattle.drm_links.specs.Link.{Answer, Failed, Traffic}
use Rattle.drm_links.specs.Sink.{Output, OutputsText}
use Rattle.dcp_collect.specs.declared.taken.Taken.TheVariants.{Refused}
use Rattle.drm_reconfiguration.specs.declared.tracker.Before.TheVariants.{Switch, Resumed}
use Rattle.drm_timeline.specs.Starts.{later_starts}
use Rattle.mod_feed.specs.Feeding.{FeedStep, befores_of}
use Rattle.drm_timeline.specs.Numbers.{frame_count}
use Rattle.law_delivery.specs.Sent.{Arrival, OfSchedule, Foreign, pairs_in, IsDeliveryOf, IsInTime}
use Rattle.law_delivery.specs.Given.{IsServed, AreGiven, IsStart, AreAllServed, AreAllFrames}
use Rattle.law_frame_lines.specs.Line.{IsFrameLine}
use Rattle.report_text.specs.Report.{item_line}
use Rattle.recv_reading.specs.declared.reason.EndWord.{EndWord}
use Rattle.report_text.specs.declared.counts.Refusal.{Refusal}
use Rattle.recv_reading.specs.declared.options.ReceiveOptions.{ReceiveOptions}
use Rattle.recv_reading.specs.Ending.{datagrams, IsFinished}
use Rattle.recv_reading.specs.OneReading.{IsReadingOf}
use Rattle.report_text.specs.Reports.{report, is_clean}

-- Whatever is missing, a switch is told only before the first frame of a later configuration of the schedule. Where no frame
-- is missing one is told before each of these behind the first item, and nothing is resumed.
pub record ReportsSwitches (plan : Plan) (first_frame : ℤ) (steps : List FeedStep) : Type 0 where
  pub only : (q f : ℕ) → slice_get (befores_of steps) q ≡ Some (Some (Switch f)) → (f ≡ q) × IsStart plan first_frame q
  pub each : AreAllFrames steps → (start q : ℕ) → Contains (later_starts plan) start → (first_frame +ℤ pos q) ≡ pos (3 * start)
      → 0 < q → q < length steps → slice_get (befores_of steps) q ≡ Some (Some (Switch q))
  pub none_resumed : AreAllFrames steps → (q p : ℕ) → slice_get (befores_of steps) q ≡ Some (Some (Resumed p)) → ⊥

-- Each frame that is in time is given as the server sends it.
abbrev pub GivesInTime : Plan → ℕ → ℤ → List (ℕ × ℕ) → List FeedStep → Type 0
GivesInTime plan window first_frame pairs steps =
    (q : ℕ) (step : FeedStep) → IsInTime plan window first_frame pairs q → slice_get steps q ≡ Some step
    → (t : ℕ) × ((first_frame +ℤ pos q) ≡ pos t) × IsServed plan t q step.item

-- The line of each item that is a frame of the schedule is that frame's.
abbrev pub PrintsFrames : Plan → List FeedStep → Type 0
PrintsFrames plan steps =
    (q t : ℕ) (step : FeedStep) → slice_get steps q ≡ Some step → IsServed plan t q step.item → IsFrameLine plan t q (item_line step.item)

-- the refusals of the foreign datagrams among the arrivals, the first of which is datagram n
abbrev pub foreign_from : ℕ → List Arrival → List Refusal
foreign_from n [] = []
foreign_from n (OfSchedule pair ∷ arrivals) = foreign_from (n + 1) arrivals
foreign_from n (Foreign cause ∷ arrivals) = record { number = n; taken = Refused cause } ∷ foreign_from (n + 1) arrivals

abbrev pub foreign_datagrams : List Arrival → List Refusal
foreign_datagrams arrivals = foreign_from 0 arrivals

-- The text is the report of what a delivery of a schedule calls for: of what was refused it names the foreign datagrams, and last it says
-- why the reading of these answers ends.
pub record ReportsDelivery (plan : Plan) (rules : ReceiveOptions) (feed : ℕ) (first_frame : ℤ) (arrivals : List Arrival) (answers : List Answer) (text : List ℕ) (clean : Bool) : Type 0 where
  pub steps : List FeedStep
  pub given : AreGiven plan rules.window first_frame rules.frames (pairs_in arrivals) steps
  pub in_time : GivesInTime plan rules.window first_frame (pairs_in arrivals) steps
  pub printed : PrintsFrames plan steps
  pub switches : ReportsSwitches plan first_frame steps
  pub word : EndWord
  pub reading : IsFinished rules answers word
  pub text_is : text ≡ report feed steps (foreign_datagrams arrivals) word
  pub clean_is : clean ≡ is_clean steps

-- Whatever delivery of whatever valid schedule these answers are: the text is the report of what it calls for.
abbrev pub HeadlineOf : ReceiveOptions → ℕ → List Answer → List ℕ → Bool → Type 0
HeadlineOf rules feed answers text clean =
    (plan : Plan) (first_frame : ℤ) (arrivals : List Arrival)
    → IsSchedule plan → IsDeliveryOf plan rules.reach rules.first first_frame arrivals (datagrams answers)
    → ReportsDelivery plan rules feed first_frame arrivals answers text clean

-- without a told number of frames
abbrev pub without_frames : ReceiveOptions → ReceiveOptions
without_frames rules = record rules { frames = None }

-- The answers that would be read of those ahead if no number of frames were told: all up to the end of the reading; or, where
-- a number is told, those before its failure.
abbrev pub WouldBeRead : ReceiveOptions → List Answer → List Answer → Type 0
WouldBeRead rules ahead answers =
    ((word : EndWord) × IsReadingOf (without_frames rules) ahead answers (Some word))
    ⊎ ((rules.frames ≢ None) × IsReadingOf (without_frames rules) ahead (answers ++ Failed ∷ []) None)

-- All frames of the schedule were given, with its switches. The text says nothing else, but the foreign datagrams among what was read of
-- what was ahead, and why that reading ends.
pub record ReportsAllFrames (plan : Plan) (rules : ReceiveOptions) (feed : ℕ) (arrivals : List Arrival) (ahead : List Answer) (text : List ℕ) (clean : Bool) : Type 0 where
  pub steps : List FeedStep
  pub many : length steps ≡ frame_count plan
  pub all : AreAllServed plan (pos 0) steps
  pub printed : PrintsFrames plan steps
  pub switches : ReportsSwitches plan (pos 0) steps
  pub word : EndWord
  pub answers : List Answer
  pub reading : IsReadingOf rules ahead answers (Some word)
  pub text_is : text ≡ report feed steps (foreign_datagrams (take (length (datagrams answers)) arrivals)) word
  pub clean_is : clean ≡ true

-- Whatever delivery of whatever valid schedule is ahead, from its first frame on and with each frame in time: all frames are
-- given, whether their number is told or not.
abbrev pub CompleteOf : ReceiveOptions → ℕ → List Answer → List ℕ → Bool → Type 0
CompleteOf rules feed ahead text clean =
    (plan : Plan) (arrivals : List Arrival) (answers : List Answer)
    → IsSchedule plan → WouldBeRead rules ahead answers
    → IsDeliveryOf plan rules.reach rules.first (pos 0) arrivals (datagrams answers)
    → (rules.frames ≡ None) ⊎ (rules.frames ≡ Some (frame_count plan))
    → ((q : ℕ) → q < frame_count plan → IsInTime plan rules.window (pos 0) (pairs_in arrivals) q)
    → ReportsAllFrames plan rules feed arrivals ahead text clean

-- These answers came over the link in between.
abbrev pub AreNewAnswers : List Answer → Traffic → Traffic → Type 0
AreNewAnswers answers before after = after.answers ≡ before.answers ++ answers

-- THE HEADLINE for one link: whatever delivery of whatever valid schedule came over it, its report was written.
abbrev pub Headline : ReceiveOptions → ℕ → Known Traffic → Known Traffic → Known Output → Known Output → Bool → Type 0
Headline rules feed before after a b clean =
    IfBothKnown before after (λ x y. (answers : List Answer) → AreNewAnswers answers x y
    → OutputsText a b (λ text. HeadlineOf rules feed answers text clean))

-- Whatever was ahead of the link: where it held each frame in time, all of them were given.
abbrev pub CompleteHeadline : ReceiveOptions → ℕ → Known Traffic → Known Traffic → Known Output → Known Output → Bool → Type 0
CompleteHeadline rules feed before after a b clean =
    IfBothKnown before after (λ x y. OutputsText a b (λ text. CompleteOf rules feed x.ahead text clean))

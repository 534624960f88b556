-- What a reader keeps of the lines so far, and what its calls answer.
use Rattle.std.specs.Prelude.{ℕ, ◌≡◌, ◌+◌, ◌<◌, ◌≤◌, ◌||◌, nat_lt, Bool, false, true, length, sum_by, List, [], ◌∷◌, ◌++◌, Option, Some, None, option_map, Result, Ok, Err}
use Rattle.std.specs.Option.{option_to_list}
use Rattle.text_lines.specs.Faults.{FailsAt, GivesSaid, LeavesSaid, fault, first_fault, ok_unless, words_say, lines_say, ◌>>=◌}
use Rattle.text_lines.specs.Lines.{words_of}
use Rattle.drm_schedule.specs.declared.invalid.Reason.TheVariants.{TooLong}
use Rattle.drm_schedule.specs.declared.plan.Plan.{Plan}
use Rattle.drm_timeline.specs.Numbers.{packet_size}
use Rattle.dcp_pft.specs.Carrying.{cut_of}
use Rattle.plan_script.specs.declared.delivery.Delivery.{Delivery}
use Rattle.plan_script.specs.declared.fault.ScriptFault.{ScriptFault}
use Rattle.plan_script.specs.declared.fault.ScriptFault.TheVariants as faults
use Rattle.plan_script.specs.declared.feeds.Feeds.{Feeds}
use Rattle.plan_script.specs.declared.line.ScriptLine.{ScriptLine}
use Rattle.plan_script.specs.declared.line.ScriptLine.TheVariants as lines
use Rattle.plan_script.specs.declared.packet.SchedulePacket.{SchedulePacket}
use Rattle.plan_script.specs.Script.{ScriptTextFault, delivery_size, delivered, lacks_feed, is_too_long, rows, line_said}

-- a packet of the schedule, and how it is cut
pub record IsPacket (plan : Plan) (packet : SchedulePacket) : Type 0 where
  pub size : packet.len ≡ packet_size plan packet.number
  pub cut : packet.cut ≡ cut_of plan.carry packet.len

-- more deliveries for the last feed
abbrev pub to_last : List Delivery → List (List Delivery) → List (List Delivery)
to_last more [] = []
to_last more (feed ∷ []) = (feed ++ more) ∷ []
to_last more (feed ∷ next ∷ feeds) = feed ∷ to_last more (next ∷ feeds)

-- one more line
abbrev pub with_line : Plan → ScriptLine → List (List Delivery) → List (List Delivery)
with_line plan lines.Feed feeds = feeds ++ [] ∷ []
with_line plan (lines.Deliver d) feeds = to_last (delivered plan d) feeds

-- line n, which by itself says this, after these feeds
unfoldable pub feeds_after : Plan → List (List Delivery) → ℕ → ScriptLine → Result (List (List Delivery)) ScriptTextFault
feeds_after plan feeds n line = ok_unless (first_fault (rows n (lacks_feed feeds line) (is_too_long plan (with_line plan line feeds)))) (with_line plan line feeds)

abbrev pub words_after : Plan → List (List Delivery) → ℕ → List ℕ → List (List ℕ) → Result (List (List Delivery)) ScriptTextFault
words_after plan feeds n line words = words_say feeds (λ first more. line_said plan n line first more >>= feeds_after plan feeds n) words

-- what line n does to the feeds
abbrev pub line_after : Plan → List (List Delivery) → ℕ → List ℕ → Result (List (List Delivery)) ScriptTextFault
line_after plan feeds n line = words_after plan feeds n line (words_of line)

abbrev pub lines_after : Plan → List (List Delivery) → ℕ → List (List ℕ) → Result (List (List Delivery)) ScriptTextFault
lines_after plan feeds n lines = lines_say (line_after plan) feeds n lines

-- the feeds that are kept
abbrev pub feeds_in : Feeds → List (List Delivery)
feeds_in feeds = feeds.closed ++ option_to_list feeds.current

-- so many deliveries, or so many bytes, that a limit is passed
abbrev pub is_full : Feeds → Bool
is_full feeds = nat_lt 100000 feeds.count || nat_lt 268435456 feeds.bytes

-- The feeds are counted, and no limit is passed.
pub record AreCounted (plan : Plan) (feeds : Feeds) : Type 0 where
  pub count : feeds.count ≡ sum_by length (feeds_in feeds)
  pub bytes : feeds.bytes ≡ sum_by (sum_by (delivery_size plan)) (feeds_in feeds)
  pub few : length feeds.closed ≤ 15
  pub closed : feeds.current ≡ None → feeds.closed ≡ []
  pub fits : is_full feeds ≡ false

-- more deliveries for the last feed
abbrev pub with_all : Plan → List Delivery → Feeds → Feeds
with_all plan more feeds = record feeds {
  current = option_map (λ feed. feed ++ more) feeds.current;
  count = feeds.count + length more;
  bytes = feeds.bytes + sum_by (delivery_size plan) more;
}

-- one more delivery for the last feed, that isn't counted yet
abbrev pub pushed : Delivery → Feeds → Feeds
pushed d feeds = record feeds { current = option_map (λ feed. feed ++ d ∷ []) feeds.current }

-- one more feed
abbrev pub begun : Feeds → Feeds
begun feeds = record feeds { closed = feeds_in feeds; current = Some [] }

-- at line n one more feed begins, or there are 16 already, unless memory ran out
abbrev pub FeedBegins : Result (Unit {0}) ScriptFault → ℕ → Feeds → Feeds → Type 0
FeedBegins (Ok done) n new whole = (new ≡ whole) × (length whole.closed ≤ 15)
FeedBegins (Err faults.NoMemory) n new whole = Unit {0}
FeedBegins (Err (faults.Line line reason)) n new whole = (line ≡ n) × (reason ≡ TooLong) × (15 < length whole.closed)

-- at line n all are kept, or they pass a limit, unless memory ran out
abbrev pub KeepsPackets : Result (Unit {0}) ScriptFault → ℕ → Feeds → Feeds → Type 0
KeepsPackets (Ok done) n new whole = (new ≡ whole) × (is_full whole ≡ false)
KeepsPackets (Err faults.NoMemory) n new whole = Unit {0}
KeepsPackets (Err (faults.Line line reason)) n new whole = (line ≡ n) × (reason ≡ TooLong) × (is_full whole ≡ true)

-- a call's fault as one of the text
abbrev pub line_fault : ScriptFault → Option ScriptTextFault
line_fault faults.NoMemory = None
line_fault (faults.Line line reason) = Some (fault line reason)

-- a call that fails as the reading does, unless memory ran out
abbrev pub FailsAs : {X : Type 0} → ScriptFault → Result X ScriptTextFault → Type 0
FailsAs p read = FailsAt (line_fault p) read

-- the lines are read on, or failed at their first fault, unless memory ran out
abbrev pub ScriptSteps : Result (Unit {0}) ScriptFault → List (List Delivery) → Result (List (List Delivery)) ScriptTextFault → Type 0
ScriptSteps r new read = LeavesSaid line_fault r new read

-- what is read, or the first fault, unless memory ran out
abbrev pub ReadsScript : {X : Type 0} → Result X ScriptFault → Result X ScriptTextFault → Type 0
ReadsScript r read = GivesSaid line_fault r read

-- the feeds that lines give, or their first fault, unless memory ran out
abbrev pub ReadsFeeds : Result Feeds ScriptFault → Result (List (List Delivery)) ScriptTextFault → Type 0
ReadsFeeds (Ok feeds) read = read ≡ Ok (feeds_in feeds)
ReadsFeeds (Err p) read = FailsAs p read
